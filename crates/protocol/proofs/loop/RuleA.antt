-- Rule A at the views of the window, ascending: each run is a turn of the loop, and afterwards A applies nowhere. Assumes nothing.
use mathlib.Core.Path.{◌≡◌, refl, sym, subst, ◌∙◌}
use mathlib.Core.Logic.{⊎_elim}
use mathlib.Core.Bool.{true, false, true≢false}
use Prim.Native.Nat.{ℕ, suc, ◌+◌, ◌≤◌, ◌<◌}
use native.Mathlib.Omega.{arith}
use borrow.Author.Tests.{leb-true, le-leb, ltb-true, lt-ltb}
use Rattle.codec.proofs.Order.{and_true, which}
use Rattle.memory.specs.Window.{highest}
use Rattle.counters.specs.Counters.{timing}
use Rattle.protocol.specs.Work.{Work, settings, view_now, timed, send_timeout}
use Rattle.protocol.specs.Rules.{test_a, rule_a, each, timeout_views}
use Rattle.protocol.specs.Applies.{timeouts_kept, AppliesA, NoA, by_a, rest, turn}
use Rattle.protocol.proofs.call.Regular.{Regular}
use Rattle.protocol.proofs.call.Actions.{timeout_regular}
use Rattle.protocol.proofs.loop.Advance.{timeout_window, in_timeouts}
use Rattle.protocol.proofs.Branch.{by_cases}
use Rattle.protocol.proofs.loop.Turns.{Reaches, each_reaches}

-- the test of rule A at a view of the window is when it applies
module _ (w : ℕ) (W : Work) where
  applies_a : w ≤ highest (view_now W) → test_a w W ≡ true → AppliesA w W
  applies_a h e =
      let p = and_true _ _ e in
      let q = and_true _ _ p.1 in
      let a = leb-true (view_now W) w p.0 in
      record {
        window = in_timeouts (view_now W) w (record { from = a; to = omega arith; below = omega arith });
        untimed = ltb-true (timed W) w q.0;
        enough = leb-true (suc (settings W).f) (timeouts_kept w W) q.1;
      }

  passes_a : AppliesA w W → test_a w W ≡ true
  passes_a a = rw (le-leb (view_now W) w (timeout_window (view_now W) w a.window).from, lt-ltb (timed W) w a.untimed, le-leb (suc (settings W).f) (timeouts_kept w W) a.enough)

-- before A runs at view w, if it has run at the views below, from v on
record BelowA (v w : ℕ) (W : Work) : Type 0 where
  regular : Regular W
  view_is : view_now W ≡ v
  none_below : (u : ℕ) → u < w → AppliesA u W → ⊥

timed_now : (w : ℕ) (W : Work) → timed (send_timeout w W) ≡ w
unfolding send_timeout timing
timed_now w W = refl

view_now_lem : (w : ℕ) (W : Work) → view_now (send_timeout w W) ≡ view_now W
unfolding send_timeout timing
view_now_lem w W = refl

-- sending a timeout for w: A applies no more at w or below
step_a : (v w : ℕ) (W : Work) → w ≤ highest v → BelowA v w W → Reaches (BelowA v (suc w)) W (rule_a w W)
unfolding rule_a
step_a v w W h D = by_cases (Reaches (BelowA v (suc w)) W) (test_a w W) (send_timeout w W) W sent stays
  where
    sent : test_a w W ≡ true → Reaches (BelowA v (suc w)) W (send_timeout w W)
    sent t = record {
      by = turn (by_a w (record { here = applies_a w W (omega (arith, D.view_is)) t; no_lower = D.none_below })) rest;
      so = record {
        regular = (timeout_regular W w (omega arith) D.regular).0;
        view_is = view_now_lem w W ∙ D.view_is;
        none_below = λ u l a. omega (arith, a.untimed, timed_now w W);
      };
    }

    stays : test_a w W ≡ false → Reaches (BelowA v (suc w)) W W
    stays t = record {
      by = rest;
      so = record {
        regular = D.regular;
        view_is = D.view_is;
        none_below = λ u l a. ⊎_elim (λ m. D.none_below u m a)
            (⊎_elim (λ e. true≢false (sym (passes_a w W (subst (λ (z : ℕ). AppliesA z W) e a)) ∙ t)) (λ m. omega arith)) (which u w);
      };
    }

pub record AfterA (W : Work) : Type 0 where
  pub regular : Regular W
  pub no_a : NoA W

pub phase_a_lem : (W : Work) → Regular W → Reaches AfterA W (each rule_a (view_now W) (timeout_views W) W)
phase_a_lem W R =
    let v = view_now W in
    let k = timeout_views W in
    let r = each_reaches (BelowA v) rule_a v (v + k) (λ w X lo hi D. step_a v w X (omega arith) D) k v W (omega arith) refl
    (record { regular = R; view_is = refl; none_below = λ u l a. omega (arith, (timeout_window v u a.window).from) }) in
    let D = r.so in
    record {
      by = r.by;
      so = record {
        regular = D.regular;
        no_a = λ u a. let i = timeout_window _ u a.window in D.none_below u (omega (arith, i.from, i.to, i.below, D.view_is)) a;
      };
    }
