-- THE LISTING OF 01: from what an accepted opening with (1,1,0), n 6, own 1 leaves, over any regions that are long enough, the calls timer 2, timer 1, timer 1
-- and propose give 01's four lines (`listing`). Assumes nothing.
use Prim.Native.Nat.{ℕ, ◌+◌, ◌*◌, ◌%◌, ◌≤◌}
use native.Mathlib.Omega.{arith}
use mathlib.Core.Path.{◌≡◌, refl, sym, ap, ◌∙◌}
use mathlib.Core.Bool.{Bool, true, false, cond, false≢true}
use mathlib.Core.Logic.{⊎_elim}
use mathlib.Core.List.{List, []}
use borrow.Author.Tests.{eqb-true, eqb-false}
use lib.Dec.{eqb, lit<, lit≤}
use lib.ListN.{length}
use Rattle.settings.specs.declared.Settings.{Settings}
use Rattle.settings.specs.Quorum.{replicas, block_quorum, timeout_quorum, slow_quorum, fast_quorum}
use Rattle.settings.specs.Answer.{accepts, refuses, judge}
use Rattle.settings.specs.Opening.{in_turn, numbers_from}
use Rattle.settings.proofs.Leaders.{in_turn_good}
use Rattle.codec.specs.Bytes.{IsBytes}
use Rattle.wire.specs.Fields.{timeout_length}
use Rattle.wire.specs.Encode.{timeout_bytes}
use Rattle.wire.specs.Fit.{All}
use Rattle.wire.proofs.Lengths.{length_timeout}
use Rattle.memory.specs.Layout.{memory_length, timeout_row, vote_row, commit_row, timeouts_place, settings_of, own_of, leaders_of}
use Rattle.memory.specs.Kept.{has, keep, kept_count}
use Rattle.memory.specs.Leaders.{entry_for, by_list}
use Rattle.memory.proofs.Apart.{Table, votes, commits, timeouts, row_of, rows_of, size_of, width_of}
use Rattle.memory.proofs.Bits.{counted, counted_le}
use Rattle.memory.proofs.Clearing.{has_same}
use Rattle.memory.proofs.Counting.{kept_counted, tally_kept}
use Rattle.memory.proofs.Entering.{tag}
use Rattle.counters.specs.Counters.{opened, timing}
use Rattle.protocol.specs.Work.{Work, n, own, own_timeout, keep_timeout, send_timeout}
use Rattle.protocol.specs.Typed.{BlockTyped}
use Rattle.protocol.specs.Refusals.{store_length, output_length, region_rules, timer_rules, propose_rules}
use Rattle.protocol.specs.Applies.{Done, rest}
use Rattle.protocol.specs.Calls.{Replica, begin, timer_core, propose_core, Outcome, outcome, timer_call, propose_call, opening_call, opened_memory}
use Rattle.protocol.specs.OneCall.{left}
use Rattle.protocol.specs.Example.{six}
use Rattle.protocol.specs.Listing.{listed_name, lines_of, printed}
use Rattle.protocol.proofs.call.Regular.{Regular}
use Rattle.protocol.proofs.call.Actions.{own_timeout_fits, timeout_regular}
use Rattle.protocol.proofs.call.Opening.{Openable, opened_work, opened_settings, opened_own, opened_leaders, opened_none, opened_regular, opening_takes}
use Rattle.protocol.proofs.call.OneCall.{RegularReplica, regular_regions, begin_regular}
use Rattle.protocol.proofs.loop.Loop.{loop_ends}
use Rattle.protocol.proofs.call.Regions.{judge_past}
use Rattle.protocol.proofs.example.Rows.{nobody, stays, joins}

-- ---- one timeout in view 1's row, and nothing else: no row has more than one entry
module _ (m e : List ℕ) (b : IsBytes m) (long : memory_length ≤ length m) (l : length e ≡ timeout_length) (none : (t : Table) (v j : ℕ) → has m (row_of t v) j ≡ false) where
  abbrev with : List ℕ
  with = keep m (timeout_row 1) timeout_length 1 e

  off : (t : Table) (v j : ℕ) → (t ≡ timeouts → v % rows_of t ≡ 1 % rows_of t → ⊥) → has with (row_of t v) j ≡ true → eqb j 1 ≡ true
  off t v j d h =
      absurd (false≢true (sym (has_same m with (row_of t v) (width_of t) (stays timeouts m 1 e b long l (lit< tt) (none timeouts 1 1) t v d) j ∙ none t v j) ∙ h))

  on : (v j : ℕ) → v % 4 ≡ 1 → has with (timeout_row v) j ≡ true → eqb j 1 ≡ true
  on v j e₁ h =
      let same : timeout_row v ≡ timeout_row 1 = ap (λ (k : ℕ). timeouts_place + size_of timeouts * k) e₁ in
      go (eqb j 1) (sym (joins timeouts m 1 e b long l (lit< tt) (none timeouts 1 1) nobody (none timeouts 1) j) ∙ ap (λ (k : ℕ). has with k j) (sym same) ∙ h)
    where
      go : (t : Bool) → cond t true false ≡ true → t ≡ true
      go true p = refl
      go false p = absurd (false≢true p)

  only_own : (t : Table) (v j : ℕ) → has with (row_of t v) j ≡ true → eqb j 1 ≡ true
  only_own votes v j h = off votes v j (λ z y. omega (arith, ap tag z)) h
  only_own commits v j h = off commits v j (λ z y. omega (arith, ap tag z)) h
  only_own timeouts v j h = go (eqb (v % 4) 1) refl
    where
      go : (t : Bool) → eqb (v % 4) 1 ≡ t → eqb j 1 ≡ true
      go true p = on v j (eqb-true (v % 4) 1 p) h
      go false p = off timeouts v j (λ z y. eqb-false (v % 4) 1 p y) h

  most_one : (t : Table) (v : ℕ) → kept_count with (row_of t v) 6 ≤ 1
  unfolding counted
  most_one t v =
      let k = counted_le (has with (row_of t v)) (λ j. eqb j 1) 6 (λ j h. only_own t v j) in
      omega (arith, kept_counted with (row_of t v) 6 (lit≤ tt), k)

-- ---- the calls
module _ (lent : Replica) (b : IsBytes lent.memory) (typed : All BlockTyped lent.store) (long : memory_length ≤ length lent.memory) (many : store_length ≤ length lent.store) where
  openable : Openable six 1 (in_turn 6)
  openable = record { few = lit≤ tt; member = lit< tt; list = in_turn_good 6 (lit< tt) (lit≤ tt) }

  -- what the opening leaves
  abbrev m₀ : List ℕ
  m₀ = opened_memory lent.memory six 1 (in_turn 6)

  abbrev r₀ : Replica
  r₀ = record { counters = opened; memory = m₀; store = lent.store }

  opening_is : opening_call lent 1 1 0 6 1 (in_turn 6) ≡ outcome lent [] (accepts (opened_work lent.memory lent.store six 1 (in_turn 6)))
  unfolding opening_call
  opening_is = ap (outcome lent []) (opening_takes lent six 1 (in_turn 6) openable long many)

  R₀ : RegularReplica r₀
  R₀ = opened_regular lent.memory lent.store six 1 (in_turn 6) openable b typed long many

  settings₀ : settings_of m₀ ≡ six
  settings₀ = opened_settings lent.memory six 1 (in_turn 6) openable long

  own₀ : own_of m₀ ≡ 1
  own₀ = opened_own lent.memory six 1 (in_turn 6) openable long

  -- timer 2: above the view
  module _ (a : List ℕ) (room : output_length ≤ length a) where
    first : timer_call r₀ a 2 ≡ outcome r₀ a (refuses 8)
    unfolding timer_call timer_core timer_rules judge opened
    first = ap (outcome r₀ a) (judge_past _ (region_rules (begin r₀) (length a)) (timer_rules (begin r₀) 2) (regular_regions (begin r₀) (length a) R₀ room))

  -- timer 1: its own timeout is kept, and no rule applies
  W₁ : Work
  W₁ = send_timeout 1 (begin r₀)

  sent : List ℕ
  sent = timeout_bytes (own_timeout (begin r₀) 1)

  memory₁ : W₁.memory ≡ keep m₀ (timeout_row 1) timeout_length 1 sent
  unfolding W₁ sent send_timeout keep_timeout
  memory₁ = ap (λ (i : ℕ). keep m₀ (timeout_row 1) timeout_length i sent) own₀

  most : (t : Table) (v : ℕ) → kept_count W₁.memory (row_of t v) 6 ≤ 1
  unfolding sent
  most t v = rw memory₁ (most_one m₀ sent R₀.typed.memory R₀.memory_long (length_timeout _ (own_timeout_fits (begin r₀) 1 (lit< tt) R₀)) (opened_none lent.memory six 1 (in_turn 6) openable long) t v)

  R₁ : Regular W₁
  unfolding W₁
  R₁ = (timeout_regular (begin r₀) 1 (lit< tt) R₀).0

  settings₁ : settings_of W₁.memory ≡ six
  unfolding W₁
  settings₁ = (timeout_regular (begin r₀) 1 (lit< tt) R₀).1.settings ∙ settings₀

  own₁ : own_of W₁.memory ≡ 1
  unfolding W₁
  own₁ = (timeout_regular (begin r₀) 1 (lit< tt) R₀).1.own ∙ own₀

  leaders₁ : leaders_of W₁.memory ≡ in_turn 6
  unfolding W₁
  leaders₁ = (timeout_regular (begin r₀) 1 (lit< tt) R₀).1.leaders.list ∙ opened_leaders lent.memory six 1 (in_turn 6) openable long

  first_leads : by_list W₁.memory 1 ≡ 0
  unfolding by_list entry_for numbers_from
  first_leads = rw leaders₁

  n_is : n W₁ ≡ 6
  n_is = ap replicas settings₁

  few : (t : Table) (v : ℕ) → kept_count W₁.memory (row_of t v) (n W₁) ≤ 1
  few t v = rw n_is (most t v)

  done : Done W₁
  done =
      record {
        no_a = λ w p. omega (arith, p.enough, few timeouts w, ap (λ (s : Settings). s.f) settings₁);
        no_b = λ w p. omega (arith, p.enough, few timeouts w, ap timeout_quorum settings₁);
        no_c = λ w x p. omega (arith, p.enough, tally_kept W₁.memory (vote_row w) x (n W₁) (omega (arith, n_is)), few votes w, ap block_quorum settings₁);
        no_d = λ w x p. ⊎_elim
            (λ e. omega (arith, e, tally_kept W₁.memory (vote_row w) x (n W₁) (omega (arith, n_is)), few votes w, ap fast_quorum settings₁))
            (λ e. omega (arith, e, tally_kept W₁.memory (commit_row w) x (n W₁) (omega (arith, n_is)), few commits w, ap slow_quorum settings₁)) p.enough;
      }

  module _ (a : List ℕ) (room : output_length ≤ length a) where
    second : timer_call r₀ a 1 ≡ outcome r₀ a (accepts W₁)
    unfolding timer_call timer_core timer_rules judge opened W₁
    second = ap (outcome r₀ a) (judge_past _ (region_rules (begin r₀) (length a)) (timer_rules (begin r₀) 1) (regular_regions (begin r₀) (length a) R₀ room) ∙ ap accepts (sym (loop_ends W₁ W₁ R₁ rest done)))

  abbrev r₁ : Replica
  r₁ = record { counters = W₁.counters; memory = W₁.memory; store = W₁.store }

  -- timer 1 again: known
  module _ (a : List ℕ) (room : output_length ≤ length a) where
    third : timer_call r₁ a 1 ≡ outcome r₁ a (refuses 10)
    unfolding timer_call timer_core timer_rules judge opened W₁ send_timeout keep_timeout timing
    third = ap (outcome r₁ a) (judge_past _ (region_rules (begin r₁) (length a)) (timer_rules (begin r₁) 1) (regular_regions (begin r₁) (length a) (begin_regular W₁ R₁) room))

  -- propose: replica 0 leads view 1
  module _ (a : List ℕ) (room : output_length ≤ length a) where
    not_leader_lem : (A : Type 0) (x : A) → judge (propose_rules (begin r₁) by_list listed_name) x ≡ refuses 15
    unfolding judge propose_rules opened W₁ send_timeout keep_timeout timing
    not_leader_lem A x = rw (first_leads, own₁)

    fourth : propose_call by_list r₁ a listed_name ≡ outcome r₁ a (refuses 15)
    unfolding propose_call propose_core
    fourth =
        ap (outcome r₁ a)
        (judge_past _ (region_rules (begin r₁) (length a)) (propose_rules (begin r₁) by_list listed_name) (regular_regions (begin r₁) (length a) (begin_regular W₁ R₁) room) ∙ not_leader_lem Work _)

  -- THE LISTING: the opening is accepted, and the calls after it print what 01 says
  pub listing : (a b c d : List ℕ) → output_length ≤ length a → output_length ≤ length b → output_length ≤ length c → output_length ≤ length d
      → ((opening_call lent 1 1 0 6 1 (in_turn 6)).reply ≡ accepts 0) × (lines_of (left (opening_call lent 1 1 0 6 1 (in_turn 6))) a b c d ≡ printed)
  unfolding outcome W₁ send_timeout keep_timeout timing opened
  listing a b c d ha hb hc hd = (ap (λ (o : Outcome). o.reply) opening_is, rw (opening_is, first a ha, second b hb, third c hc, fourth d hd))
