-- Where too few timeouts are kept, and too few votes but for the name of the lock, the rules A, B and C change nothing. Assumes nothing.
use Prim.Native.Nat.{ℕ, zero, suc, ◌+◌, ◌-◌, ◌≤◌, ◌<◌}
use native.Mathlib.Omega.{arith}
use mathlib.Core.Path.{◌≡◌, refl, ap, ◌∙◌}
use mathlib.Core.Bool.{Bool, true, false, cond, not, ◌&&◌, false≢true}
use mathlib.Core.List.{List}
use borrow.Author.Tests.{lt-ltb, lt-leb, ltb-true, ltb-false, leb-false, eqb-true, not-false}
use lib.Dec.{leb, ltb, eqb}
use lib.ListN.{length}
use Rattle.settings.specs.declared.Settings.{Settings}
use Rattle.settings.specs.Quorum.{largest, replicas, block_quorum, timeout_quorum}
use Rattle.blocks.specs.declared.Block.{Block}
use Rattle.memory.specs.Layout.{vote_row, commit_row, timeout_row, settings_of}
use Rattle.memory.specs.Kept.{kept_count, tally}
use Rattle.memory.specs.Window.{lowest, highest}
use Rattle.memory.specs.Decided.{Choice, no_choice, chosen, above, alone_in, alone, decided, next_decided, too_few}
use Rattle.memory.proofs.Counting.{kept_most}
use Rattle.memory.proofs.Passing.{few_none}
use Rattle.memory.proofs.Sole.{sole_next}
use Rattle.memory.specs.Formed.{formed}
use Rattle.protocol.specs.Work.{Work, n, own, view_now, timed, send_timeout}
use Rattle.protocol.specs.Events.{progress}
use Rattle.protocol.specs.Rules.{rule_a, rule_b, rule_c, enough_votes, formed_block, each}
use Rattle.certificate.specs.Rank.{block_certificate, outranks}
use Rattle.counters.specs.declared.Signed.{Signed}
use Rattle.counters.specs.Counters.{locks_of}
use Rattle.act.specs.declared.Draft.{Draft}
use Rattle.act.specs.Draft.{work_of, Does}
use Rattle.act.proofs.Steps.{does_stay}
use Rattle.rules.specs.Phases.{phase_a, phase_b, phase_c, phases, nowhere, echoable, few_timeouts, certifiable, few_votes}
use Rattle.rules.proofs.Views.{lower_view, same_name, some_quorum}

-- ---- a test that fails at each view
module _ (test : ℕ → Bool) where
  nowhere_first : (v k : ℕ) → nowhere test v (suc k) ≡ true → (test v ≡ false) × (nowhere test (suc v) k ≡ true)
  unfolding nowhere
  nowhere_first v k h = go (test v) refl h
    where
      go : (t : Bool) → test v ≡ t → cond t false (nowhere test (suc v) k) ≡ true → (t ≡ false) × (nowhere test (suc v) k ≡ true)
      go true e g = absurd (false≢true g)
      go false e g = (refl, g)

  -- the loop over the views before the end
  pub nowhere_on : (end at : ℕ) → at < end → test at ≡ false → nowhere test at (end - at) ≡ nowhere test (at + 1) (end - (at + 1))
  unfolding nowhere
  nowhere_on end at h e =
      let f : end - at ≡ suc (end - suc at) = omega (arith, h) in
      let g : at + 1 ≡ suc at = omega arith in
      rw (f, g, e) refl

  pub nowhere_off : (end at : ℕ) → at < end → test at ≡ true → false ≡ nowhere test at (end - at)
  unfolding nowhere
  nowhere_off end at h e = let f : end - at ≡ suc (end - suc at) = omega (arith, h) in rw (f, e) refl

  pub nowhere_end : (end at : ℕ) → end ≤ at → true ≡ nowhere test at (end - at)
  unfolding nowhere
  nowhere_end end at h = let f : end - at ≡ 0 = omega (arith, h) in rw f refl

-- a rule that changes nothing at each view
each_rests : (rule : ℕ → Work → Work) (test : ℕ → Bool) (W : Work) → ((v : ℕ) → test v ≡ false → rule v W ≡ W) → (v k : ℕ) → nowhere test v k ≡ true → each rule v k W ≡ W
unfolding each
each_rests rule test W rest v zero h = refl
each_rests rule test W rest v (suc k) h =
    let f = nowhere_first test v k h in
    ap (each rule (suc v) k) (rest v f.0) ∙ each_rests rule test W rest (suc v) k f.1

last_false : (a b : Bool) (x y : Work) → cond (a && (b && false)) x y ≡ y
last_false true true x y = refl
last_false true false x y = refl
last_false false b x y = refl

second_false : (a : Bool) (x y : Work) → cond (a && false) x y ≡ y
second_false true x y = refl
second_false false x y = refl

module _ (W : Work) where
  abbrev m : List ℕ
  m = W.memory

  -- rules A and B at a view
  module _ (v : ℕ) where
    abbrev timeouts : ℕ
    timeouts = kept_count m (timeout_row v) (replicas (settings_of m))

    a_sent : ltb (timed W) v ≡ false → rule_a v W ≡ W
    unfolding rule_a
    a_sent e = rw (e, second_false (leb (view_now W) v) (send_timeout v W) W) refl

    a_few : timeouts ≤ (settings_of m).f → rule_a v W ≡ W
    unfolding rule_a
    a_few h = rw (lt-leb (suc (settings_of m).f) timeouts (omega (arith, h))) (last_false (leb (view_now W) v) (ltb (timed W) v) (send_timeout v W) W)

    b_few : timeouts < timeout_quorum (settings_of m) → rule_b v W ≡ W
    unfolding rule_b
    b_few h = rw (lt-leb (timeout_quorum (settings_of m)) timeouts h) (second_false (leb (view_now W) v) (progress (formed m v (n W) (own W)) W) W)

    a_rests : echoable m (settings_of m) (timed W) v ≡ false → rule_a v W ≡ W
    a_rests e = go (ltb (timed W) v) refl e
      where
        go : (t : Bool) → ltb (timed W) v ≡ t → cond t (ltb (settings_of m).f timeouts) (leb (timeout_quorum (settings_of m)) timeouts) ≡ false → rule_a v W ≡ W
        go true f g = a_few (omega (arith, ltb-false (settings_of m).f timeouts g))
        go false f g = a_sent f

    b_rests : echoable m (settings_of m) (timed W) v ≡ false → rule_b v W ≡ W
    b_rests e = go (ltb (timed W) v) e
      where
        go : (t : Bool) → cond t (ltb (settings_of m).f timeouts) (leb (timeout_quorum (settings_of m)) timeouts) ≡ false → rule_b v W ≡ W
        go true g = b_few (omega (arith, ltb-false (settings_of m).f timeouts g))
        go false g = b_few (omega (arith, leb-false (timeout_quorum (settings_of m)) timeouts g))

  -- rule C at a view: the name that is found, if any
  module _ (small : replicas (settings_of m) ≤ largest) (v : ℕ) where
    abbrev found : Choice
    found = next_decided m (enough_votes v W) no_choice

    abbrev size : ℕ
    size = replicas (settings_of m)

    abbrev quorum : ℕ
    quorum = block_quorum (settings_of m)

    abbrev lock : Signed
    lock = W.counters.lock

    unranked : outranks (block_certificate v found.name 0) (locks_of W.counters).lock ≡ false → rule_c v W ≡ W
    unfolding rule_c
    unranked e = rw e (second_false found.some (progress (formed_block v W found.name) W) W)

    none_found : found ≡ no_choice → rule_c v W ≡ W
    unfolding rule_c
    none_found e = rw e refl

    -- more commits than there are replicas are never kept
    few_commits : kept_count m (commit_row v) size < suc size
    few_commits = omega (arith, kept_most m (commit_row v) size (omega (arith, small)))

    c_few : kept_count m (vote_row v) size < quorum → rule_c v W ≡ W
    unfolding too_few
    c_few few = none_found (few_none m (enough_votes v W) small (rw (lt-ltb _ _ few, lt-ltb _ _ few_commits) refl) no_choice)

    -- with too few votes for another name than x, x or none is found
    x_found : (x : List ℕ) → alone_in m (vote_row v) size quorum x ≡ true → found ≡ cond (decided m (enough_votes v W) x && above no_choice x) (chosen x) no_choice
    unfolding alone
    x_found x votes =
        let commits : alone_in m (commit_row v) size (suc size) x ≡ true = lt-ltb (kept_count m (commit_row v) size - (tally m (commit_row v) x size).count) (suc size) (omega (arith, few_commits)) in
        sole_next m (enough_votes v W) small x (rw (votes, commits) refl) (some_quorum (settings_of m) refl) (omega arith) no_choice

    -- the lock's own name doesn't outrank the lock
    c_locked : v ≡ lock.view.0 → alone_in m (vote_row v) size quorum lock.name ≡ true → rule_c v W ≡ W
    c_locked at votes = go (decided m (enough_votes v W) lock.name && above no_choice lock.name) (x_found lock.name votes)
      where
        go : (t : Bool) → found ≡ cond t (chosen lock.name) no_choice → rule_c v W ≡ W
        go true e = unranked (rw e (same_name v W.counters at))
        go false e = none_found e

    c_rests : certifiable m (settings_of m) lock v ≡ false → rule_c v W ≡ W
    c_rests e = go (ltb v lock.view.0) refl (eqb v lock.view.0) refl e
      where
        go : (s : Bool) → ltb v lock.view.0 ≡ s → (t : Bool) → eqb v lock.view.0 ≡ t
            → cond s false (cond t (not (alone_in m (vote_row v) size quorum lock.name)) (leb quorum (kept_count m (vote_row v) size))) ≡ false → rule_c v W ≡ W
        go true f t g h = unranked (lower_view v found.name W.counters (ltb-true v lock.view.0 f))
        go false f true g h = c_locked (eqb-true v lock.view.0 g) (not-false _ h)
        go false f false g h = c_few (omega (arith, leb-false quorum (kept_count m (vote_row v) size) h))

-- ---- NO RULE APPLIES
pub all_rest : (d : Draft) (m o : List ℕ) → d.at ≤ length o → replicas (settings_of m) ≤ largest → few_timeouts m d.counters.view.0 d.counters.timed.0 ≡ true → few_votes m d.counters.view.0 d.counters.lock ≡ true
    → Does phases d m o d m o
unfolding few_timeouts few_votes phases phase_a phase_b phase_c
all_rest d m o l small t v = does_stay phases d m o l rests
  where
    rests : (s : List Block) → phases (work_of d m o s) ≡ work_of d m o s
    rests s =
        let W = work_of d m o s in
        let c = d.counters.view.0 in
        let k = suc (highest c) - c in
        let a : each rule_a c k W ≡ W = each_rests rule_a (echoable m (settings_of m) d.counters.timed.0) W (a_rests W) c k t in
        let b : each rule_b c k W ≡ W = each_rests rule_b (echoable m (settings_of m) d.counters.timed.0) W (b_rests W) c k t in
        let z : each rule_c (lowest c) (suc (highest c) - lowest c) W ≡ W = each_rests rule_c (certifiable m (settings_of m) d.counters.lock) W (c_rests W small) (lowest c) (suc (highest c) - lowest c) v in
        rw (a, b, z) refl

-- ---- the two loops, as the code takes them
module _ (m : List ℕ) (view : ℕ) {s : Settings} {end : ℕ} (e : s ≡ settings_of m) (f : end ≡ suc (highest view)) where
  pub timeouts_are : (timed : ℕ) → nowhere (echoable m s timed) view (end - view) ≡ few_timeouts m view timed
  unfolding few_timeouts
  timeouts_are timed = rw (e, f) refl

  pub votes_are : (lock : Signed) (low : ℕ) → low ≡ lowest view → nowhere (certifiable m s lock) low (end - low) ≡ few_votes m view lock
  unfolding few_votes
  votes_are lock low g = rw (e, f, g) refl
