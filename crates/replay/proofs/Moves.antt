-- Laws of specs/Replay.antt for the functions over what is lent: a call that is made, a piece that is taken, and all of them. Assumes nothing.
use Prim.Native.Nat.{ℕ, suc, ◌+◌, ◌-◌, ◌≤◌, ◌<◌}
use native.Mathlib.Omega.{arith}
use mathlib.Core.Path.{◌≡◌, refl, sym, ap, ◌∙◌}
use mathlib.Core.Bool.{Bool, true, false, cond}
use mathlib.Core.List.{List, []}
use Rattle.std.specs.Prelude.{Some, None}
use lib.ListN.{length, drop, length-drop}
use Rattle.settings.specs.Answer.{Answer, accepts, refuses}
use Rattle.blocks.specs.declared.Block.{Block}
use Rattle.counters.specs.declared.Counters.{Counters}
use Rattle.memory.specs.Leaders.{by_list}
use Rattle.protocol.specs.Calls.{Replica, Outcome, opening_call}
use Rattle.protocol.specs.OneCall.{Call, call_on, left}
use Rattle.protocol.specs.Listing.{number}
use Rattle.replica.specs.declared.Reply.{Reply}
use Rattle.replica.specs.Reply.{Replied, lent_to, replied, replied_by, reply_of}
use Rattle.replay.specs.declared.Opening.{Opening}
use Rattle.replay.specs.declared.Place.{Place}
use Rattle.replay.specs.declared.Request.{Request}
use Rattle.replay.specs.Input.{front, used, calls, asks}
use Rattle.replay.specs.Lines.{line_length}
use Rattle.replay.specs.Replay.{Answered, after_answer, answered, opens_with, goes, behind, with_line, Standing, standing, step, steps}
use Rattle.replay.specs.Requests.{asked_of, Told, told, told_front, request_at}
use Rattle.replay.proofs.Laws.{going, ready_some}
use Rattle.replay.proofs.Cutting.{used_some, used_within}

-- ---- calls
-- the number of a reply is that of its answer
refusal_is : (a : Answer ℕ) → (reply_of a).refusal ≡ number a
unfolding reply_of
refusal_is (accepts k) = refl
refusal_is (refuses k) = refl

-- what a reply tells of a call's outcome
told_lem : {c : Counters} {m : List ℕ} {s : List Block} {o : List ℕ} (x : Outcome) (t : Reply) → replied t c m s o ≡ replied_by x
    → after_answer t.refusal (lent_to c m s) o ≡ after_answer (number x.reply) (left x) x.output
told_lem x t is =
    ap (λ (z : Replied). after_answer z.reply.refusal (lent_to z.counters z.memory z.store) z.output) is ∙ ap (λ (k : ℕ). after_answer k (left x) x.output) (refusal_is x.reply)

pub opens_made : {c : Counters} {m : List ℕ} {s : List Block} {given : List ℕ} (leaders : ℕ → List ℕ) (p : Replica) (o : Opening) (t : Reply) → given ≡ leaders o.n
    → replied t c m s [] ≡ replied_by (opening_call p o.f o.c o.k o.n o.own given) → after_answer t.refusal (lent_to c m s) [] ≡ opens_with leaders p (Some o)
unfolding opens_with
opens_made leaders p o t g is =
    ap (λ (a : Answered). after_answer a.answer a.replica []) (told_lem (opening_call p o.f o.c o.k o.n o.own (leaders o.n)) t (rw g at is))

pub called : {c : Counters} {m : List ℕ} {s : List Block} {o' : List ℕ} (p : Replica) (o : List ℕ) (x : Call) (t : Reply)
    → replied t c m s o' ≡ replied_by (call_on by_list p o x) → after_answer t.refusal (lent_to c m s) o' ≡ answered p o (calls x)
unfolding answered
called p o x t is = told_lem (call_on by_list p o x) t is

-- ---- the next piece, where one is to be taken
module _ (ended : Bool) (input : List ℕ) (room : ℕ) (p : Place) where
  -- what is known of it
  pub record Next (q : Request) : Type 0 where
    pub goes : goes ended input room p ≡ true
    pub used : q.used ≡ used (drop p.at input)
    pub asks : asked_of q.asks ≡ asks (front (drop p.at input))

  pub next_is : (q : Request) → Some (told q) ≡ request_at ended input room p → Next q
  unfolding request_at
  next_is q e = by (goes ended input room p) refl e
    where
      by : (t : Bool) → goes ended input room p ≡ t → Some (told q) ≡ cond t (Some (told_front (drop p.at input))) None → Next q
      by true g f =
          let same : told q ≡ told_front (drop p.at input) = cc in
          record { goes = g; used = ap (λ (x : Told). x.used) same; asks = ap (λ (x : Told). x.asks) same }
      by false g f = cc

  pub none_goes : None ≡ request_at ended input room p → goes ended input room p ≡ false
  unfolding request_at
  none_goes e = by (goes ended input room p) e
    where
      by : (t : Bool) → None ≡ cond t (Some (told_front (drop p.at input))) None → t ≡ false
      by true f = cc
      by false f = refl

-- it has a line's room, takes up a byte or more, and lies within the input
pub record Fits (input : List ℕ) (room : ℕ) (p : Place) (used : ℕ) : Type 0 where
  pub line : p.filled + line_length ≤ room
  pub some : 0 < used
  pub within : p.at + used ≤ length input

pub next_fits : (ended : Bool) (input : List ℕ) (room : ℕ) (p : Place) (q : Request) → Next ended input room p q → Fits input room p q.used
next_fits ended input room p q n =
    let h = going ended input room p n.goes in
    let r = ready_some ended (drop p.at input) h.piece in
    let s = used_some (drop p.at input) r in
    let u = n.used in
    record { line = h.fits; some = omega (arith, u, s); within = omega (arith, u, used_within (drop p.at input), length-drop p.at input, r) }

-- THE STEP: the request, its call and its line together
pub piece_taken : {c : Counters} {m : List ℕ} {s : List Block} {o' lines' : List ℕ} {r : ℕ} {place : Place} (ended : Bool) (input lines : List ℕ) (at : Place) (p : Replica) (o : List ℕ) (q : Request)
    → Next ended input (length lines) at q → after_answer r (lent_to c m s) o' ≡ answered p o (asked_of q.asks) → (place ≡ behind at q.used r) × (lines' ≡ with_line lines at r c)
    → standing (lent_to c m s) o' lines' place ≡ step ended input (standing p o lines at)
unfolding step
piece_taken {c} {m} {s} {o'} {lines'} {r} {place} ended input lines at p o q n made put =
    let x : after_answer r (lent_to c m s) o' ≡ answered p o (asks (front (drop at.at input))) = made ∙ ap (answered p o) n.asks in
    rw (n.goes, put.0, put.1, n.used)
    (ap (λ (z : Answered). standing z.replica z.output (with_line lines at z.answer z.replica.counters) (behind at (used (drop at.at input)) z.answer)) x)

-- ---- so many pieces, one after another
module _ (ended : Bool) (input : List ℕ) where
  -- where a piece is taken, one fewer is left
  pub one_more : (s s' : Standing) (k : ℕ) → 0 < k → s' ≡ step ended input s → steps ended input (k - 1) s' ≡ steps ended input k s
  unfolding steps
  one_more s s' k h e = let f : suc (k - 1) ≡ k = omega arith in rw e (ap (λ (n : ℕ). steps ended input n s) f)

  pub no_more : (s : Standing) (k : ℕ) → k ≡ 0 → s ≡ steps ended input k s
  unfolding steps
  no_more s k h = rw h
