-- A rule that is run at view after view, and the three phases: what is done so far, and what is ready for the next view. Assumes nothing.
use Prim.Native.Nat.{ℕ, zero, suc, ◌+◌, ◌-◌, ◌*◌, ◌≤◌, ◌<◌}
use native.Mathlib.Nat.{add-zero, mul-suc}
use native.Mathlib.Omega.{arith}
use mathlib.Core.Path.{◌≡◌, refl, sym, ap, ◌∙◌}
use mathlib.Core.Bool.{◌&&◌}
use mathlib.Core.List.{List}
use lib.Dec.{leb, ltb}
use lib.ListN.{length, length-append}
use Rattle.settings.specs.Quorum.{last_view, timeout_quorum}
use Rattle.wire.specs.Fields.{timeout_length, block_certificate_length, vote_length}
use Rattle.wire.specs.Encode.{timeout_bytes}
use Rattle.certificate.specs.Rank.{block_certificate, outranks}
use Rattle.memory.specs.Layout.{entry_room, timeout_row}
use Rattle.memory.specs.Kept.{kept_count}
use Rattle.memory.specs.Window.{lowest, highest}
use Rattle.memory.specs.Decided.{no_choice, next_decided}
use Rattle.counters.specs.Counters.{locks_of}
use Rattle.protocol.specs.Work.{Work, settings, n, view_now, timed, blocks, send_timeout, keep_timeout, own_timeout}
use Rattle.protocol.specs.Rules.{rule_a, rule_b, rule_c, enough_votes, each, again, settle, timeout_views, ballot_views}
use Rattle.protocol.proofs.call.Regular.{Regular, Still}
use Rattle.protocol.proofs.call.Rules.{each_regular, a_regular, b_regular, c_regular}
use Rattle.protocol.proofs.call.Written.{Grows, a_out, b_out, c_out}
use Rattle.protocol.proofs.call.Output.{each_out, timeout_views_lem, ballot_views_lem}
use Rattle.act.specs.declared.Draft.{Draft}
use Rattle.act.specs.Draft.{work_of, Does, Ready}
use Rattle.act.proofs.Steps.{empty_store, Longer, does_same, does_stay, does_then, ready_next}
use Rattle.act.proofs.Advancing.{longer_if, progress_longer}
use Rattle.rules.specs.Phases.{Rule, phase_a, phase_b, phase_c, phases}

-- ---- nothing is unwritten
timeout_longer : (v : ℕ) (W : Work) → Longer W (send_timeout v W)
unfolding send_timeout keep_timeout
timeout_longer v W = omega (arith, length-append W.out (timeout_bytes (own_timeout W v)))

pub a_longer : (v : ℕ) (W : Work) → Longer W (rule_a v W)
unfolding rule_a
a_longer v W =
    longer_if W _ _ (leb (view_now W) v && (ltb (timed W) v && leb (suc (settings W).f) (kept_count W.memory (timeout_row v) (n W)))) (timeout_longer v W) (omega arith)

pub b_longer : (v : ℕ) (W : Work) → Longer W (rule_b v W)
unfolding rule_b
b_longer v W =
    longer_if W _ _ (leb (view_now W) v && leb (timeout_quorum (settings W)) (kept_count W.memory (timeout_row v) (n W))) (progress_longer _ W) (omega arith)

pub c_longer : (v : ℕ) (W : Work) → Longer W (rule_c v W)
unfolding rule_c
c_longer v W =
    let x = next_decided W.memory (enough_votes v W) no_choice in
    longer_if W _ _ (x.some && outranks (block_certificate v x.name 0) (locks_of W.counters).lock) (progress_longer _ W) (omega arith)

-- the rules as they are run at each view
abbrev pub law_a : Rule
law_a = record { does = rule_a; room = timeout_length; longer = a_longer; keeps = a_regular; grows = a_out }

abbrev pub law_b : Rule
law_b = record { does = rule_b; room = entry_room; longer = b_longer; keeps = b_regular; grows = b_out }

abbrev pub law_c : Rule
law_c = record { does = rule_c; room = block_certificate_length + vote_length; longer = c_longer; keeps = c_regular; grows = c_out }

-- ---- a rule at one view more
each_more : (rule : ℕ → Work → Work) (v k : ℕ) (W : Work) → each rule v (suc k) W ≡ rule (v + k) (each rule v k W)
unfolding each
each_more rule v zero W = rw (add-zero v)
each_more rule v (suc k) W = let e : suc v + k ≡ v + suc k = omega arith in each_more rule (suc v) k (rule v W) ∙ rw e

module _ (rule : ℕ → Work → Work) (longer : (v : ℕ) (W : Work) → Longer W (rule v W)) where
  pub each_longer : (v k : ℕ) (W : Work) → Longer W (each rule v k W)
  unfolding each
  each_longer v zero W = omega arith
  each_longer v (suc k) W = omega (arith, each_longer (suc v) k (rule v W), longer v W)

  pub run_start : (d : Draft) (m o : List ℕ) (v : ℕ) → d.at ≤ length o → Does (each rule v (v - v)) d m o d m o
  unfolding each
  run_start d m o v h = let e : v - v ≡ 0 = omega arith in does_stay (each rule v (v - v)) d m o h (λ s. rw e)

  -- from view v on, so far up to view w
  pub run_turn : (v w : ℕ) {d d₁ d₂ : Draft} {m m₁ m₂ o o₁ o₂ : List ℕ} → v ≤ w → Does (each rule v (w - v)) d m o d₁ m₁ o₁ → Does (rule w) d₁ m₁ o₁ d₂ m₂ o₂
      → Does (each rule v (w + 1 - v)) d m o d₂ m₂ o₂
  run_turn v w {d = d} {m = m} {o = o} h a b =
      let e : w + 1 - v ≡ suc (w - v) = omega arith in
      let f : v + (w - v) ≡ w = omega arith in
      does_same (λ W. rule w (each rule v (w - v) W)) (each rule v (w + 1 - v))
      (λ s. sym (ap (λ (k : ℕ). each rule v k (work_of d m o s)) e ∙ each_more rule v (w - v) (work_of d m o s) ∙ ap (λ (k : ℕ). rule k (each rule v (w - v) (work_of d m o s))) f))
      (does_then (each rule v (w - v)) (rule w) a b (longer w))

-- ---- ready for the next view
pub run_ready : (rule : ℕ → Work → Work) (c : ℕ) → ((W : Work) (v : ℕ) → v < last_view → Regular W → Regular (rule v W) × Still W (rule v W))
    → ((W : Work) (v : ℕ) → v < last_view → Regular W → Grows c W (rule v W))
    → (v k : ℕ) {d d₁ : Draft} {m m₁ o o₁ : List ℕ} {i : ℕ} → Does (each rule v k) d m o d₁ m₁ o₁ → Ready d m o i → Regular (work_of d m o empty_store)
    → v + k ≤ last_view → c * suc k ≤ i → Ready d₁ m₁ o₁ c
run_ready rule c keeps grows v k {d} {m = m} {o = o} a r R l h =
    ready_next (each rule v k) (c * k) c a r (each_regular rule keeps v k (work_of d m o empty_store) l R).0
    (each_out rule c keeps grows v k (work_of d m o empty_store) l R) (omega (arith, mul-suc c k))

-- ---- the phases
module _ (W : Work) (R : Regular W) where
  pub phase_a_lem : Regular (phase_a W) × Grows (112 * 4) W (phase_a W)
  unfolding phase_a
  phase_a_lem = (
    (each_regular rule_a a_regular (view_now W) (timeout_views W) W (omega (arith, R.view_last)) R).0,
    omega (arith, each_out rule_a 112 a_regular a_out (view_now W) (timeout_views W) W (omega (arith, R.view_last)) R, timeout_views_lem W),
  )

  pub phase_b_lem : Regular (phase_b W) × Grows (entry_room * 4) W (phase_b W)
  unfolding phase_b
  phase_b_lem = (
    (each_regular rule_b b_regular (view_now W) (timeout_views W) W (omega (arith, R.view_last)) R).0,
    omega (arith, each_out rule_b entry_room b_regular b_out (view_now W) (timeout_views W) W (omega (arith, R.view_last)) R, timeout_views_lem W),
  )

  pub phase_c_lem : Regular (phase_c W) × Grows (104 * 8) W (phase_c W)
  unfolding phase_c
  phase_c_lem = (
    (each_regular rule_c c_regular (lowest (view_now W)) (ballot_views W) W (omega (arith, R.view_last)) R).0,
    omega (arith, each_out rule_c 104 c_regular c_out (lowest (view_now W)) (ballot_views W) W (omega (arith, R.view_last)) R, ballot_views_lem W),
  )

pub b_phase_longer : (W : Work) → Longer W (phase_b W)
unfolding phase_b
b_phase_longer W = each_longer rule_b b_longer (view_now W) (timeout_views W) W

pub c_phase_longer : (W : Work) → Longer W (phase_c W)
unfolding phase_c
c_phase_longer W = each_longer rule_c c_longer (lowest (view_now W)) (ballot_views W) W

-- ---- the run is done when the last view is passed
module _ (rule : ℕ → Work → Work) {d d₁ : Draft} {m m₁ o o₁ : List ℕ} where
  pub run_ends : (v w last : ℕ) → last ≡ highest d.counters.view.0 → v ≤ w → w - v ≤ suc last - v → last < w
      → Does (each rule v (w - v)) d m o d₁ m₁ o₁ → Does (each rule v (suc (highest d.counters.view.0) - v)) d m o d₁ m₁ o₁
  run_ends v w last e a b c x =
      let k : w - v ≡ suc (highest d.counters.view.0) - v = omega arith in
      does_same (each rule v (w - v)) (each rule v (suc (highest d.counters.view.0) - v)) (λ s. rw k) x

-- ---- one phase after another
abbrev pub phases_room : ℕ
phases_room = 112 * 4 + (entry_room * 4 + 104 * 8)

module _ {d d₁ : Draft} {m m₁ o o₁ : List ℕ} where
  pub ready_b : Ready d m o phases_room → Regular (work_of d m o empty_store) → Does phase_a d m o d₁ m₁ o₁ → Ready d₁ m₁ o₁ (entry_room * 4)
  ready_b r R a = let p = phase_a_lem (work_of d m o empty_store) R in ready_next phase_a (112 * 4) (entry_room * 4) a r p.0 p.1 (omega arith)

module _ {d d₁ d₂ : Draft} {m m₁ m₂ o o₁ o₂ : List ℕ} where
  pub ready_c : Ready d m o phases_room → Regular (work_of d m o empty_store) → Does phase_a d m o d₁ m₁ o₁ → Does phase_b d₁ m₁ o₁ d₂ m₂ o₂ → Ready d₂ m₂ o₂ (104 * 8)
  ready_c r R a b =
      let W = work_of d m o empty_store in
      let p = phase_a_lem W R in
      let q = phase_b_lem (phase_a W) p.0 in
      ready_next (λ W. phase_b (phase_a W)) (112 * 4 + entry_room * 4) (104 * 8) (does_then phase_a phase_b a b b_phase_longer) r q.0 (omega (arith, p.1, q.1)) (omega arith)

module _ {d d₁ d₂ d₃ : Draft} {m m₁ m₂ m₃ o o₁ o₂ o₃ : List ℕ} where
  pub phases_do : Does phase_a d m o d₁ m₁ o₁ → Does phase_b d₁ m₁ o₁ d₂ m₂ o₂ → Does phase_c d₂ m₂ o₂ d₃ m₃ o₃ → Does phases d m o d₃ m₃ o₃
  unfolding phases
  phases_do a b c = does_then (λ W. phase_b (phase_a W)) phase_c (does_then phase_a phase_b a b b_phase_longer) c c_phase_longer

-- ---- for the caller
pub phases_longer : (W : Work) → Longer W (phases W)
unfolding phases phase_a
phases_longer W =
    let A = phase_a W in
    omega (arith, each_longer rule_a a_longer (view_now W) (timeout_views W) W, b_phase_longer A, c_phase_longer (phase_b A))

-- what the rules A, B and C leave is regular, and has so many bytes more
pub phases_keep : (W : Work) → Regular W → Regular (phases W) × Grows phases_room W (phases W)
unfolding phases
phases_keep W R =
    let a = phase_a_lem W R in
    let b = phase_b_lem (phase_a W) a.0 in
    let c = phase_c_lem (phase_b (phase_a W)) b.0 in
    (c.0, omega (arith, a.1, b.1, c.1))

-- the run of all rules is theirs and then D's
pub settle_is : (W : Work) → settle W ≡ again (length (blocks (phases W))) (phases W)
unfolding settle phases phase_a phase_b phase_c
settle_is W = refl
