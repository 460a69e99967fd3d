-- The known results of 01 and 02: every line of the table holds (`known_hold`). Assumes nothing.
use Prim.Native.Nat.{ℕ, zero, suc, ◌+◌, ◌^◌, ◌≤◌, ◌<◌}
use native.Mathlib.Omega.{arith}
use mathlib.Core.Path.{◌≡◌, refl, sym, ap, ◌∙◌}
use mathlib.Core.Bool.{Bool, true, false, cond, not, false≢true}
use mathlib.Core.Logic.{inl}
use mathlib.Core.List.{List, [], ◌∷◌}
use borrow.Author.Tests.{le-ltb, lt-leb}
use lib.Count.{ones_in}
use lib.Dec.{eqb, lit<, lit≤}
use lib.ListN.{length}
use Rattle.settings.specs.declared.Settings.{Settings}
use Rattle.settings.specs.Answer.{Answer, accepts, refuses, Rule, ◌⇒◌, judge}
use Rattle.settings.specs.Quorum.{largest, replicas}
use Rattle.codec.specs.Bytes.{IsBytes}
use Rattle.codec.specs.Names.{same_bytes, less_bytes, zero_name}
use Rattle.codec.proofs.Order.{same_refl, ne_same, less_irrefl, less_asym}
use Rattle.wire.specs.declared.Vote.{Vote}
use Rattle.wire.specs.declared.Carried.{Carried}
use Rattle.wire.specs.declared.Timeout.{Timeout}
use Rattle.wire.specs.Content.{by_timeouts, certificate_of, Content, certificate}
use Rattle.wire.specs.Encode.{encode}
use Rattle.wire.specs.Shape.{shape_rules}
use Rattle.wire.specs.Fit.{IsName, All, TimeoutFits, CertificateFits, Fits, TimeoutsProper, CertificateProper, Proper}
use Rattle.wire.proofs.Facts.{Quiet, off_judge}
use Rattle.wire.proofs.Tables.{stands_encode}
use Rattle.wire.proofs.Contents.{certificate_back}
use Rattle.wire.proofs.Accepted.{quiet_stands}
use Rattle.wire.proofs.ReadBack.{read_written}
use Rattle.certificate.specs.declared.Certificate.{Certificate}
use Rattle.certificate.specs.Rank.{outranks, carried_certificate}
use Rattle.certificate.specs.Good.{all, signer_count, signers_needed, is_good, timeout_good, progress_good}
use Rattle.certificate.specs.Safe.{each, better, signs, joins, gives, backed_by, built_by, carried_by, safe_of_timeouts, safe_certificate}
use Rattle.memory.specs.Leaders.{by_list}
use Rattle.protocol.specs.Work.{Work, n}
use Rattle.protocol.specs.Typed.{BlockTyped}
use Rattle.protocol.specs.Refusals.{output_length, region_rules, refusals}
use Rattle.protocol.specs.Calls.{Replica, begin, outcome, opening_call, record_core, record_call}
use Rattle.protocol.specs.Clusters.{Cluster}
use Rattle.protocol.specs.OneCall.{left, Handing, HandingTyped, after}
use Rattle.protocol.specs.Example.{six}
use Rattle.protocol.specs.Known.{settings, timeouts, accepting, quorums, safe_or_refused, genesis, carries, sent, OfSix, Holds, none, votes, four_signers, known}
use Rattle.protocol.proofs.call.Typing.{zero_is_name}
use Rattle.protocol.proofs.call.Opening.{Openable, opened_settings, opening_takes}
use Rattle.protocol.proofs.call.Clusters.{nothing_else_opens}
use Rattle.protocol.proofs.call.Regions.{judge_past, run_passes, run_settings}

-- one fact after another
infixr 5 ◌also◌
abbrev ◌also◌ : {P Q : Type 0} → P → Q → P × Q
p also q = (p, q)

-- ---- settings that an opening accepts, and settings that it refuses by 1
opens : (f c k : ℕ) → let s : Settings = record { f = f; c = c; k = k } in replicas s ≤ largest → Holds (settings f c k (replicas s) (accepts (quorums s)))
unfolding Holds opening_call outcome accepting
opens f c k few r own leaders long many member list =
    let s : Settings = record { f = f; c = c; k = k } in
    let o : Openable s own leaders = record { few = few; member = member; list = list } in
    rw (opening_takes r s own leaders o long many, opened_settings r.memory s own leaders o long)

refused : (f c k n : ℕ) → (Cluster f c k n → ⊥) → Holds (settings f c k n (refuses 1))
unfolding Holds accepting
refused f c k n h r own leaders long many member list = rw (nothing_else_opens r f c k n own leaders h)

-- ---- what a call's list says, whatever the call does
judged : {B : Type 0} (r : Replica) (output : List ℕ) (rules : List Rule) (W : Work) (b : B) → accepting b (outcome r output (judge rules W)).reply ≡ judge rules b
unfolding accepting outcome judge
judged r output [] W b = refl
judged {B} r output (q ∷ rules) W b = go q.test (judged r output rules W b)
  where
    go : (t : Bool) → accepting b (outcome r output (judge rules W)).reply ≡ judge rules b
        → accepting b (outcome r output (cond t (refuses q.number) (judge rules W))).reply ≡ cond t (refuses q.number) (judge rules b)
    go true e = refl
    go false e = e

-- ---- a record of kind 6 and view 3 that passes the place "shape": 6, 7 and 8 don't apply, and 9 answers for too few timeouts and for one that isn't good
module _ (r : Replica) (output : List ℕ) (i : ℕ) (R : OfSix r) (room : output_length ≤ length output) (member : i < 6)
    (ts : List Timeout) (few : length ts ≤ 4) (fit : All TimeoutFits ts) (proper : TimeoutsProper 6 3 0 ts) where
  abbrev x : Content
  x = certificate i (by_timeouts 3 ts)

  timeouts_fit : CertificateFits (by_timeouts 3 ts)
  unfolding CertificateFits
  timeouts_fit = (lit< tt, omega arith, fit)

  fits : Fits x
  unfolding Fits
  fits = (omega arith, timeouts_fit)

  is_proper : Proper (n (begin r)) x
  unfolding Proper CertificateProper
  is_proper = rw R.cluster proper

  regions : Quiet (region_rules (begin r) (length output))
  regions = ((off_judge (region_rules (begin r) (length output)) tt tt).0 (R.passes (length output) room)).0

  shaped : Quiet (shape_rules (n (begin r)) (encode x))
  shaped = quiet_stands (n (begin r)) (encode x) x fits is_proper (stands_encode x fits)

  back : certificate_of (encode x) ≡ by_timeouts 3 ts
  unfolding encode
  back = certificate_back i (by_timeouts 3 ts) (omega arith) timeouts_fit

  listed : (k : Certificate) → judge (refusals (begin r) by_list (encode x) x) k ≡ judge (not (progress_good six (by_timeouts 3 ts)) ⇒ 9 ∷ []) k
  unfolding refusals judge
  listed k = rw (R.cluster, lt-leb 6 i member, le-ltb 3 _ R.view)

  answers : safe_or_refused r output (encode x) ≡ judge (not (progress_good six (by_timeouts 3 ts)) ⇒ 9 ∷ []) (safe_certificate six (by_timeouts 3 ts))
  unfolding record_call record_core
  answers =
      judged r output _ _ _ ∙ judge_past _ (region_rules (begin r) (length output)) _ regions ∙ judge_past _ (shape_rules (n (begin r)) (encode x)) _ shaped
      ∙ rw (read_written x fits, back, R.cluster) (listed _)

-- ---- high votes and carried certificates that records can hold
pub record Vouched (h : Vote) : Type 0 where
  pub view : h.view.0 ≤ 3
  pub name : IsName h.name
  pub named : h.view.0 ≡ 0 → h.name ≡ zero_name
  pub viewed : h.name ≡ zero_name → h.view.0 ≡ 0

pub record Carriable (c : Carried) : Type 0 where
  pub kind : c.kind ≡ 3
  pub view : c.view.0 ≤ 3
  pub name : IsName c.name
  pub signers : c.signers < 2 ^ 6

pub carries_genesis : Carriable genesis
carries_genesis = record { kind = refl; view = lit≤ tt; name = zero_is_name; signers = lit< tt }

one_carries_lem : (t : Bool) (c : Carried) → Carriable c → Carriable (cond t c genesis)
one_carries_lem true c h = h
one_carries_lem false c h = carries_genesis

module _ (c : Carried) (j : ℕ) (carriable : Carriable c) where
  pub sent-length : (i : ℕ) (high : List Vote) → length (sent c j i high) ≡ length high
  unfolding sent
  sent-length i [] = refl
  sent-length i (h ∷ l) = ap suc (sent-length (suc i) l)

  pub sent_fits : (i : ℕ) (high : List Vote) → i + length high ≤ 6 → All Vouched high → All TimeoutFits (sent c j i high)
  unfolding sent All
  sent_fits i [] few v = tt
  sent_fits i (h ∷ l) few v =
      let k = one_carries_lem (eqb i j) c carriable in
      let head : TimeoutFits (record { sender = i; view = record { 0 = 3 }; high = h; carried = cond (eqb i j) c genesis }) =
      record {
        sender = omega arith;
        view = lit< tt;
        high_view = omega (arith, v.0.view);
        high_name = v.0.name;
        kind = omega (arith, k.kind);
        carried_view = omega (arith, k.view);
        carried_name = k.name;
        signers = omega (arith, k.signers);
      } in
      (head, sent_fits (suc i) l (omega arith) v.1)

  pub sent_proper : (i : ℕ) (high : List Vote) → i + length high ≤ 6 → All Vouched high → TimeoutsProper 6 3 i (sent c j i high)
  unfolding sent All TimeoutsProper
  sent_proper i [] few v = tt
  sent_proper i (h ∷ l) few v =
      let k = one_carries_lem (eqb i j) c carriable in (
        refl,
        omega arith,
        omega arith,
        record { kind = inl k.kind; named = v.0.named; viewed = v.0.viewed; signers = k.signers },
        sent_proper (suc i) l (omega arith) v.1,
      )

-- what is left to compute of a line, whoever carries c
below_four : (P : ℕ → Type 0) → P 0 → P 1 → P 2 → P 3 → (j : ℕ) → j < 4 → P j
below_four P a b c d zero h = a
below_four P a b c d (suc zero) h = b
below_four P a b c d (suc (suc zero)) h = c
below_four P a b c d (suc (suc (suc zero))) h = d
below_four P a b c d (suc (suc (suc (suc j)))) h = absurd (omega arith)

unfoldable Computes : List Vote → Carried → Answer Certificate → ℕ → Type 0
Computes high c a j =
    let k = by_timeouts 3 (sent c j 0 high) in
    judge (not (progress_good six k) ⇒ 9 ∷ []) (safe_certificate six k) ≡ a

line : (high : List Vote) (c : Carried) (a : Answer Certificate) → All Vouched high → length high ≤ 4 → Carriable c
    → Computes high c a 0 → Computes high c a 1 → Computes high c a 2 → Computes high c a 3 → Holds (timeouts high c a)
unfolding Holds Computes
line high c a v few k p₀ p₁ p₂ p₃ r output sender j R room member h =
    answers r output sender R room member (sent c j 0 high) (omega (arith, sent-length c j k 0 high)) (sent_fits c j k 0 high (omega arith) v) (sent_proper c j k 0 high (omega arith) v)
    ∙ below_four (Computes high c a) p₀ p₁ p₂ p₃ j (omega arith)

-- ---- the votes and certificates of the table
pub none_voted : Vouched none
none_voted = record { view = lit≤ tt; name = zero_is_name; named = λ e. refl; viewed = λ e. refl }

pub voted : (x : List ℕ) → IsName x → (x ≡ zero_name → ⊥) → Vouched (votes x)
voted x name other = record { view = lit≤ tt; name = name; named = λ e. absurd (omega (arith, e)); viewed = λ e. absurd (other e) }

module _ (A B : List ℕ) (nameA : IsName A) (nameB : IsName B) (blockA : A ≡ zero_name → ⊥) (blockB : B ≡ zero_name → ⊥) (less : less_bytes A B ≡ true) where
  differ : A ≡ B → ⊥
  differ e = false≢true (sym (less_irrefl A) ∙ ap (less_bytes A) e ∙ less)

  not_b : same_bytes A B ≡ false
  not_b = ne_same A B differ

  not_a : same_bytes B A ≡ false
  not_a = ne_same B A (λ e. differ (sym e))

  not_less : less_bytes B A ≡ false
  not_less = less_asym A B less

  ruleset compared = (same_refl, not_b, not_a, less_irrefl, not_less)

  a_voted : Vouched (votes A)
  a_voted = voted A nameA blockA

  b_voted : Vouched (votes B)
  b_voted = voted B nameB blockB

  b_carried : (v : ℕ) → v ≤ 3 → Carriable (carries v B four_signers)
  b_carried v h = record { kind = refl; view = h; name = nameB; signers = lit< tt }

  -- THE KNOWN RESULTS
  pub known_hold : All Holds (known A B)
  unfolding All Computes sent judge outranks carried_certificate ones_in signer_count signers_needed is_good timeout_good all progress_good
      each better signs joins gives backed_by built_by carried_by safe_of_timeouts safe_certificate
  known_hold =
      opens 1 1 0 (lit≤ tt)
      also opens 2 2 2 (lit≤ tt)
      also opens 7 5 0 (lit≤ tt)
      also opens 2 0 1 (lit≤ tt)
      also opens 1 2 2 (lit≤ tt)
      also refused 8 4 0 33 (λ h. omega (arith, h.most))
      also line _ _ _ (a_voted also a_voted also b_voted also none_voted also tt) (lit≤ tt) carries_genesis (simp compared) (simp compared) (simp compared) (simp compared)
      also line _ _ _ (a_voted also a_voted also b_voted also b_voted also tt) (lit≤ tt) carries_genesis (simp compared) (simp compared) (simp compared) (simp compared)
      also line _ _ _ (a_voted also a_voted also b_voted also none_voted also tt) (lit≤ tt) (b_carried 3 (lit≤ tt)) (simp compared) (simp compared) (simp compared) (simp compared)
      also line _ _ _ (a_voted also a_voted also b_voted also none_voted also tt) (lit≤ tt) (b_carried 2 (lit≤ tt)) (simp compared) (simp compared) (simp compared) (simp compared)
      also line _ _ _ (a_voted also a_voted also b_voted also tt) (lit≤ tt) carries_genesis refl refl refl refl
      also tt

-- and such replicas there are: those that an opening with these settings and calls left, in a view up to 3
module _ (r : Replica) (own : ℕ) (leaders : List ℕ) (size : ℕ) (b : IsBytes r.memory) (t : All BlockTyped r.store) (opened : (opening_call r 1 1 0 6 own leaders).reply ≡ accepts size) where
  pub run_of_six : (ts : List Handing) → All HandingTyped ts → (after by_list (left (opening_call r 1 1 0 6 own leaders)) ts).counters.view.0 ≤ 3 → OfSix (after by_list (left (opening_call r 1 1 0 6 own leaders)) ts)
  run_of_six ts h v =
      record {
        cluster = run_settings r 1 1 0 6 own leaders size b t opened ts h;
        view = v;
        passes = run_passes r 1 1 0 6 own leaders size b t opened ts h;
      }
