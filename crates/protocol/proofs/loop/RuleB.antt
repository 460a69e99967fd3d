-- Rule B at the views of the window, ascending: each run is a turn of the loop, and afterwards neither A nor B applies anywhere. Assumes nothing.
use mathlib.Core.Path.{◌≡◌, refl, sym, ap, subst, ◌∙◌}
use mathlib.Core.Logic.{⊎_elim}
use mathlib.Core.Bool.{true, false, true≢false}
use mathlib.Core.List.{List, map}
use Prim.Native.Nat.{ℕ, suc, ◌+◌, ◌≤◌, ◌<◌}
use native.Mathlib.Omega.{arith}
use borrow.Author.Tests.{leb-true, le-leb}
use Rattle.settings.specs.Quorum.{last_view, timeout_quorum}
use Rattle.codec.proofs.Order.{and_true, which}
use Rattle.wire.specs.declared.Timeout.{Timeout}
use Rattle.wire.specs.Fields.{slots}
use Rattle.wire.specs.Content.{timeout_of, by_timeouts, certificate_of}
use Rattle.memory.specs.Window.{highest}
use Rattle.memory.specs.Formed.{formed}
use Rattle.counters.specs.Counters.{entering}
use Rattle.protocol.specs.Work.{Work, settings, n, own, view_now, send, adopt, enter_by}
use Rattle.protocol.specs.Events.{safe_in, with_sender, progress}
use Rattle.protocol.specs.Rules.{test_b, rule_b, each, timeout_views}
use Rattle.protocol.specs.Applies.{timeouts_kept, AppliesB, run_b, NoA, NoB, by_b, rest, turn}
use Rattle.protocol.proofs.call.Regular.{Regular}
use Rattle.protocol.proofs.call.Rules.{b_regular}
use Rattle.protocol.proofs.loop.Formed.{formed_read, formed_fits, length_sender}
use Rattle.protocol.proofs.loop.Advance.{timeout_window, in_timeouts, Advanced, advanced_enter, a_before, b_before}
use Rattle.protocol.proofs.Branch.{by_cases}
use Rattle.protocol.proofs.loop.Turns.{Reaches, each_reaches}

-- "Timeout certificate of view w ≥ view: adopt its safe certificate, send it to the next leader, enter w+1."
pub progress_timeouts : (W : Work) (r : List ℕ) (v : ℕ) (ts : List Timeout) → certificate_of r ≡ by_timeouts v ts → view_now W ≤ v
    → progress r W ≡ enter_by (send (adopt W (safe_in W (by_timeouts v ts))) (with_sender (own W) r)) (suc v) (with_sender (own W) r)
unfolding progress
progress_timeouts W r v ts e h = rw (e, le-leb (view_now W) v h)

enter_view : (W : Work) (v : ℕ) (r : List ℕ) → view_now (enter_by W v r) ≡ v
unfolding enter_by entering
enter_view W v r = refl

-- what running B at a view w ≥ view leaves
module _ (w : ℕ) (W : Work) (R : Regular W) (h : view_now W ≤ w) (l : w < last_view) where
  run_b_lem : run_b w W ≡ enter_by (send (adopt W (safe_in W (by_timeouts w (map timeout_of (slots (formed W.memory w (n W) (own W))))))) (with_sender (own W) (formed W.memory w (n W) (own W)))) (suc w) (with_sender (own W) (formed W.memory w (n W) (own W)))
  run_b_lem = progress_timeouts W (formed W.memory w (n W) (own W)) w _ (formed_read W.memory w (n W) (own W) l) h

  advanced_b : Advanced W (run_b w W)
  advanced_b =
      let r = formed W.memory w (n W) (own W) in
      rw run_b_lem (advanced_enter W _ (with_sender (own W) r) w h (omega (arith, length_sender (own W) r, formed_fits W.memory w (n W) (own W) R.few R.memory_long)) R.memory_long)

  view_b : view_now (run_b w W) ≡ suc w
  view_b = ap view_now run_b_lem ∙ enter_view _ (suc w) _

-- the test of rule B at a view of the window is when it applies
module _ (w : ℕ) (W : Work) where
  passes_b : AppliesB w W → test_b w W ≡ true
  passes_b a = rw (le-leb (view_now W) w (timeout_window (view_now W) w a.window).from, le-leb (timeout_quorum (settings W)) (timeouts_kept w W) a.enough)

  applies_b : w ≤ highest (view_now W) → test_b w W ≡ true → AppliesB w W
  applies_b h e =
      let p = and_true _ _ e in
      let a = leb-true (view_now W) w p.0 in
      record {
        window = in_timeouts (view_now W) w (record { from = a; to = omega arith; below = omega arith });
        enough = leb-true (timeout_quorum (settings W)) (timeouts_kept w W) p.1;
      }

  runs_b : test_b w W ≡ true → rule_b w W ≡ run_b w W
  unfolding rule_b
  runs_b e = rw e

-- before B runs at view w, if it has run at the views below, from v on
record BelowB (v w : ℕ) (W : Work) : Type 0 where
  regular : Regular W
  no_a : NoA W
  from : v ≤ view_now W
  up_to : (u : ℕ) → AppliesB u W → u ≤ v + 3
  none_below : (u : ℕ) → u < w → AppliesB u W → ⊥

-- forming the certificate of w: the view is w + 1
step_b : (v w : ℕ) (W : Work) → w ≤ highest v → BelowB v w W → Reaches (BelowB v (suc w)) W (rule_b w W)
unfolding rule_b
step_b v w W h D = by_cases (Reaches (BelowB v (suc w)) W) (test_b w W) (run_b w W) W runs stays
  where
    runs : test_b w W ≡ true → Reaches (BelowB v (suc w)) W (run_b w W)
    runs t =
        let a = applies_b w W (omega (arith, D.from)) t in
        let i = timeout_window (view_now W) w a.window in
        let S = advanced_b w W D.regular i.from i.below in
        let small = D.regular.few in
        record {
          by = turn (by_b w D.no_a (record { here = a; no_lower = D.none_below })) rest;
          so = record {
            regular = subst Regular (runs_b w W t) (b_regular W w i.below D.regular).0;
            no_a = λ u b. D.no_a u (a_before W (run_b w W) small S u b);
            from = omega (arith, D.from, S.view_rises);
            up_to = λ u b. D.up_to u (b_before W (run_b w W) small S u b);
            none_below = λ u m b. omega (arith, (timeout_window _ u b.window).from, view_b w W D.regular i.from i.below);
          };
        }

    stays : test_b w W ≡ false → Reaches (BelowB v (suc w)) W W
    stays t = record {
      by = rest;
      so = record {
        regular = D.regular;
        no_a = D.no_a;
        from = D.from;
        up_to = D.up_to;
        none_below = λ u l a. ⊎_elim (λ m. D.none_below u m a)
            (⊎_elim (λ e. true≢false (sym (passes_b w W (subst (λ (z : ℕ). AppliesB z W) e a)) ∙ t)) (λ m. omega arith)) (which u w);
      };
    }

pub record AfterB (W : Work) : Type 0 where
  pub regular : Regular W
  pub no_a : NoA W
  pub no_b : NoB W

pub phase_b_lem : (W : Work) → Regular W → NoA W → Reaches AfterB W (each rule_b (view_now W) (timeout_views W) W)
phase_b_lem W R N =
    let v = view_now W in
    let k = timeout_views W in
    let r = each_reaches (BelowB v) rule_b v (v + k) (λ w X lo hi D. step_b v w X (omega arith) D) k v W (omega arith) refl
    (record {
      regular = R;
      no_a = N;
      from = omega arith;
      up_to = λ u a. (timeout_window v u a.window).to;
      none_below = λ u l a. omega (arith, (timeout_window v u a.window).from);
    }) in
    let D = r.so in
    record {
      by = r.by;
      so = record {
        regular = D.regular;
        no_a = D.no_a;
        no_b = λ u a. let i = timeout_window _ u a.window in let b = D.up_to u a in D.none_below u (omega (arith, i.from, i.below, D.from)) a;
      };
    }
