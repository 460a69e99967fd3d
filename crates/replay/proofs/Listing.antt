-- THE LISTING OF 01 FROM ITS INPUT'S BYTES: the program cuts them into the opening and four calls (`listing_opens`, `listing_pieces`, `listing_asks`) and prints 01's
-- four lines, over any regions that are long enough (`program_prints`). Where the first record opens nothing it prints `0 1 0 0 0` alone, and what is lent stays as it
-- is (`bad_opening_prints`). Assumes nothing.
use Prim.Native.Nat.{ℕ, ◌≤◌}
use native.Mathlib.Omega.{arith}
use mathlib.Core.Path.{◌≡◌, refl, ap, ◌∙◌}
use mathlib.Core.Bool.{Bool, true, false, cond}
use mathlib.Core.List.{List, [], ◌∷◌, ◌++◌}
use Rattle.std.specs.Prelude.{Option, Some, None}
use borrow.Author.Tests.{ne_eqb}
use lib.Dec.{eqb, lit<, lit≤}
use lib.ListN.{length, take, drop, get_or}
use Rattle.settings.specs.Answer.{Answer, accepts, refuses, Rule, judge}
use Rattle.settings.specs.Opening.{opening_rules, leader_rules, in_turn}
use Rattle.codec.specs.Bytes.{IsBytes, part, le_nat, le_bytes}
use Rattle.wire.specs.Encode.{header_bytes}
use Rattle.wire.specs.Fit.{All}
use Rattle.memory.specs.Layout.{memory_length}
use Rattle.memory.specs.Leaders.{by_list}
use Rattle.protocol.specs.Typed.{BlockTyped}
use Rattle.protocol.specs.Refusals.{store_length, output_length}
use Rattle.protocol.specs.Calls.{Replica, Outcome, timer_call, opening_call, opening_core, opening_refusals}
use Rattle.protocol.specs.Contents.{none}
use Rattle.protocol.specs.OneCall.{Call, timer, propose, CallTyped, call_on, left}
use Rattle.protocol.specs.Listing.{listed_name, Line, number, line_after, lines_of, printed}
use Rattle.protocol.proofs.call.Contents.{propose_as_before}
use Rattle.protocol.proofs.call.OneCall.{RegularReplica, reply-refuses, call_accepted, call_refused, call_keeps, opening_accepted, opening_refused}
use Rattle.protocol.proofs.example.Listing.{listing}
use Rattle.replay.specs.declared.Opening.{Opening}
use Rattle.replay.specs.Input.{opening_length, well_formed, opening_of, Piece, whole, begins_whole, front, used, cut, pieces, calls, asks_record, asks}
use Rattle.replay.specs.Lines.{refused_opening, next_call}
use Rattle.replay.specs.Replay.{answered, Ran, taken, run, opens, opens_with, begun, program}
use Rattle.replay.specs.Listing.{opening_bytes, timer_bytes, propose_bytes, listing_input}

-- ---- the bytes: the first record's numbers, the records after it, and what they ask
pub listing_opens : opening_of (take opening_length listing_input) ≡ Some (record { f = 1; c = 1; k = 0; n = 6; own = 1 })
unfolding listing_input opening_bytes timer_bytes propose_bytes header_bytes le_bytes listed_name opening_of well_formed part le_nat
listing_opens = refl

pub listing_pieces : pieces (drop opening_length listing_input) ≡ whole (timer_bytes 2) ∷ whole (timer_bytes 1) ∷ whole (timer_bytes 1) ∷ whole (propose_bytes listed_name) ∷ []
unfolding listing_input opening_bytes timer_bytes propose_bytes header_bytes le_bytes listed_name cut front used begins_whole part le_nat
listing_pieces = refl

pub listing_asks : (asks (whole (timer_bytes 2)) ≡ calls (timer 2)) × (asks (whole (timer_bytes 1)) ≡ calls (timer 1)) × (asks (whole (propose_bytes listed_name)) ≡ calls (propose listed_name none))
unfolding timer_bytes propose_bytes header_bytes le_bytes listed_name asks_record part le_nat
listing_asks = (refl, refl, refl)

-- ---- the calls
abbrev pub ran : Replica → List ℕ → List Line → ℕ → Ran
ran r o lines next = record { replica = r; output = o; lines = lines; next = next }

-- one call of a program that goes on behind it
one : (r : Replica) (o : List ℕ) (lines : List Line) (k next : ℕ) (p : Piece) (c : Call) → eqb k 0 ≡ false → asks p ≡ calls c → next_call k (number (call_on by_list r o c).reply) ≡ next
    → taken (ran r o lines k) p ≡ ran (left (call_on by_list r o c)) (call_on by_list r o c).output (lines ++ (line_after k (call_on by_list r o c) ∷ [])) next
unfolding taken answered
one r o lines k next p c h e n = rw (h, e, n)

-- a call keeps the length of the output region
region_kept : (r : Replica) (o : List ℕ) (c : Call) → CallTyped c → RegularReplica r → length (call_on by_list r o c).output ≡ length o
region_kept r o c h R = by_reply (call_on by_list r o c).reply refl
  where
    by_reply : (a : Answer ℕ) → (call_on by_list r o c).reply ≡ a → length (call_on by_list r o c).output ≡ length o
    by_reply (accepts k) e = (call_accepted r o c k R.typed h e).wrote.size
    by_reply (refuses a) e = ap length (call_refused r o c a e).region

module _ (lent : Replica) (o : List ℕ) (b : IsBytes lent.memory) (typed : All BlockTyped lent.store) (long : memory_length ≤ length lent.memory) (many : store_length ≤ length lent.store)
    (room : output_length ≤ length o) where
  -- what the opening leaves, and each call's outcome, with the region that the call before left
  abbrev r₀ : Replica
  r₀ = left (opening_call lent 1 1 0 6 1 (in_turn 6))

  abbrev first : Outcome
  first = timer_call r₀ o 2

  abbrev second : Outcome
  second = timer_call (left first) first.output 1

  abbrev third : Outcome
  third = timer_call (left second) second.output 1

  accepted : (opening_call lent 1 1 0 6 1 (in_turn 6)).reply ≡ accepts 0
  accepted = (listing lent b typed long many o o o o room room room room).0

  R₀ : RegularReplica r₀
  R₀ = (opening_accepted lent 1 1 0 6 1 (in_turn 6) 0 b typed accepted).regular

  R₁ : RegularReplica (left first)
  R₁ = call_keeps r₀ o (timer 2) (lit< tt) R₀

  R₂ : RegularReplica (left second)
  R₂ = call_keeps (left first) first.output (timer 1) (lit< tt) R₁

  lines_are : lines_of r₀ o first.output second.output third.output ≡ printed
  lines_are =
      let a = region_kept r₀ o (timer 2) (lit< tt) R₀ in
      let b' = region_kept (left first) first.output (timer 1) (lit< tt) R₁ in
      let c = region_kept (left second) second.output (timer 1) (lit< tt) R₂ in
      (listing lent b typed long many o first.output second.output third.output room (omega arith) (omega arith) (omega arith)).1

  -- the answers, from the lines
  answer_is : (i : ℕ) → (get_or (lines_of r₀ o first.output second.output third.output) i refused_opening).answer ≡ (get_or printed i refused_opening).answer
  answer_is i = ap (λ (l : List Line). (get_or l i refused_opening).answer) lines_are

  opened_is : begun (opens lent (opening_of (take opening_length listing_input))) o ≡ ran r₀ o [] 1
  unfolding begun opens_with
  opened_is = rw (listing_opens, accepted)

  -- THE LISTING: on its input's bytes the program prints what 01 says
  pub program_prints : (program lent o listing_input).lines ≡ printed
  unfolding program run next_call
  program_prints =
      let (two, again, name) = listing_asks in
      let l₁ = line_after 1 first in
      let l₂ = line_after 2 second in
      let l₃ = line_after 3 third in
      let plain = propose_as_before by_list (left third) third.output listed_name in
      rw (
        opened_is,
        listing_pieces,
        one r₀ o [] 1 2 (whole (timer_bytes 2)) (timer 2) refl two (ap (next_call 1) (answer_is 0)),
        one (left first) first.output (l₁ ∷ []) 2 3 (whole (timer_bytes 1)) (timer 1) refl again (ap (next_call 2) (answer_is 1)),
        one (left second) second.output (l₁ ∷ l₂ ∷ []) 3 4 (whole (timer_bytes 1)) (timer 1) refl again (ap (next_call 3) (answer_is 2)),
        one (left third) third.output (l₁ ∷ l₂ ∷ l₃ ∷ []) 4 5 (whole (propose_bytes listed_name)) (propose listed_name none) refl name (ap (λ (x : Outcome). next_call 4 (number x.reply)) plain ∙ ap (next_call 4) (answer_is 3)),
        plain,
      )
      lines_are

-- ---- an opening that opens nothing
-- once stopped, the program takes nothing more
pub run_stopped : (s : Ran) (ps : List Piece) → s.next ≡ 0 → run s ps ≡ s
unfolding run taken
run_stopped s [] e = refl
run_stopped s (p ∷ ps) e = let t : taken s p ≡ s = rw e in rw t (run_stopped s ps e)

-- what an opening that isn't accepted leaves is what was lent
opens_nothing : (lent : Replica) (x : Option Opening) → ((opens lent x).answer ≡ 0 → ⊥) → (opens lent x).replica ≡ lent
unfolding opens_with
opens_nothing lent None h = refl
opens_nothing lent (Some x) h = by_reply made_of.reply refl h
  where
    made_of : Outcome
    made_of = opening_call lent x.f x.c x.k x.n x.own (in_turn x.n)

    by_reply : (a : Answer ℕ) → made_of.reply ≡ a → (number made_of.reply ≡ 0 → ⊥) → left made_of ≡ lent
    by_reply (accepts k) e h₁ = absurd (h₁ (ap number e))
    by_reply (refuses a) e h₁ = (opening_refused lent x.f x.c x.k x.n x.own (in_turn x.n) a e).replica

-- no rule of an opening has number 0
some_number : {A : Type 0} (rules : List Rule) (x : A) (a : ℕ) → All (λ (r : Rule). 1 ≤ r.number) rules → judge rules x ≡ refuses a → 1 ≤ a
unfolding judge All
some_number [] x a h e = let z : ◌≡◌ {A = ℕ} 0 1 = cc in omega arith
some_number (r ∷ rules) x a h e = go r.test (some_number rules x a h.1) e
  where
    go : (t : Bool) → (judge rules x ≡ refuses a → 1 ≤ a) → cond t (refuses r.number) (judge rules x) ≡ refuses a → 1 ≤ a
    go true later e₁ = let n : r.number ≡ a = cc in omega (arith, h.0)
    go false later e₁ = later e₁

opening_number : (r : Replica) (f c k n own : ℕ) (leaders : List ℕ) (a : ℕ) → (opening_call r f c k n own leaders).reply ≡ refuses a → 1 ≤ a
unfolding opening_call opening_core opening_rules leader_rules All
opening_number r f c k n own leaders a e =
    let p : 1 ≤ 1 = lit≤ tt in
    let q : 1 ≤ 2 = lit≤ tt in
    some_number (opening_refusals r _ n own leaders) _ a (p, (p, (p, (p, (q, (q, tt)))))) (reply-refuses r [] (opening_core r f c k n own leaders) a e)

module _ (lent : Replica) (o input : List ℕ) where
  abbrev asked : Option Opening
  asked = opening_of (take opening_length input)

  -- BAD OPENINGS: where the opening isn't accepted, the program prints `0 1 0 0 0` and stops, with replica and output region as they were lent
  pub bad_opening_prints : ((opens lent asked).answer ≡ 0 → ⊥) → program lent o input ≡ ran lent o (refused_opening ∷ []) 0
  unfolding program begun
  bad_opening_prints h = rw (ne_eqb (opens lent asked).answer 0 h, opens_nothing lent asked h) (run_stopped _ _ refl)

  -- "empty input or a first record that isn't a well-formed kind 12"
  pub malformed_opening_prints : asked ≡ None → program lent o input ≡ ran lent o (refused_opening ∷ []) 0
  unfolding opens_with
  malformed_opening_prints e = bad_opening_prints (rw e (λ z. omega (arith, z)))

  -- "bad settings"
  pub refused_opening_prints : (x : Opening) (a : ℕ) → asked ≡ Some x → (opening_call lent x.f x.c x.k x.n x.own (in_turn x.n)).reply ≡ refuses a
      → program lent o input ≡ ran lent o (refused_opening ∷ []) 0
  unfolding opens_with
  refused_opening_prints x a w e = bad_opening_prints (rw (w, e) (λ z. omega (arith, z, opening_number lent _ _ _ _ _ _ a e)))

pub empty_input_prints : (lent : Replica) (o : List ℕ) → program lent o [] ≡ ran lent o (refused_opening ∷ []) 0
unfolding opening_of well_formed
empty_input_prints lent o = malformed_opening_prints lent o [] refl
