-- THE OUTPUT BOUND of the rules: what releases write, and what all rules write after an event, in any regular state. Assumes nothing.
use Prim.Native.Nat.{ℕ, zero, suc, ◌+◌, ◌*◌, ◌≤◌, ◌<◌}
use native.Mathlib.Nat.{mul-suc}
use native.Mathlib.Omega.{arith}
use mathlib.Core.Path.{◌≡◌, refl, ap}
use mathlib.Core.Bool.{Bool, true, false, cond, ◌&&◌, false≢true}
use mathlib.Core.Logic.{inl, inr}
use mathlib.Core.List.{List, [], ◌∷◌}
use lib.ListN.{length, length-append}
use Rattle.settings.specs.Quorum.{last_view}
use Rattle.codec.proofs.Order.{and_true}
use Rattle.wire.specs.Fields.{vote_length, block_certificate_length, timeout_length, release_length}
use Rattle.wire.specs.Encode.{release_bytes, joined}
use Rattle.wire.specs.Fit.{All}
use Rattle.wire.proofs.Lengths.{length_release}
use Rattle.blocks.specs.declared.Block.{Block}
use Rattle.blocks.specs.Store.{descends, ancestry, releases, kept}
use Rattle.blocks.proofs.Dropping.{held_within}
use Rattle.blocks.proofs.Kept.{dropped_held}
use Rattle.blocks.proofs.Linked.{In, AllIn, ancestry_last}
use Rattle.blocks.proofs.Fewer.{kept_within, held_entry, released_fewer}
use Rattle.memory.specs.Layout.{entry_room, ballot_rows, timeout_rows, block_count_of, with_block_count}
use Rattle.memory.specs.Window.{lowest}
use Rattle.memory.specs.Decided.{Choice, no_choice, next_decided}
use Rattle.memory.proofs.Header.{count_put}
use Rattle.protocol.specs.Work.{Work, own, view_now, tip, blocks, held_block, release}
use Rattle.protocol.specs.Typed.{BlockTyped}
use Rattle.protocol.specs.Refusals.{store_length}
use Rattle.protocol.specs.Rules.{tries, rule_a, rule_b, rule_c, rule_d, enough_to_release, releasable, Pair, lowest_pair, ballot_views, timeout_views, each, again, settle}
use Rattle.protocol.proofs.call.Typing.{all_take, all_append}
use Rattle.protocol.proofs.call.Regular.{Regular, Still}
use Rattle.protocol.proofs.call.Rules.{a_regular, b_regular, c_regular, d_regular, each_regular, held_block_typed}
use Rattle.protocol.proofs.call.Written.{Grows, a_out, b_out, c_out}

-- ---- rule D applies only to a held block that descends from the tip
pub record Releasable (W : Work) (x : List ℕ) : Type 0 where
  pub is : (held_block W x).is ≡ true
  pub leads : descends (tip W) (blocks W) (held_block W x).block ≡ true

pub releasable_is : (v : ℕ) (W : Work) (k : ℕ) (after : Choice) → (releasable v W k after).some ≡ true → Releasable W (releasable v W k after).name
unfolding releasable
releasable_is v W zero after e = absurd (false≢true e)
releasable_is v W (suc k) after e =
    let x = next_decided W.memory (enough_to_release v W) after in
    go x.some ((held_block W x.name).is && descends (tip W) (blocks W) (held_block W x.name).block) refl (releasable_is v W k x) e
  where
    x₀ : Choice
    x₀ = next_decided W.memory (enough_to_release v W) after

    go : (s t : Bool) → ((held_block W x₀.name).is && descends (tip W) (blocks W) (held_block W x₀.name).block) ≡ t
        → ((releasable v W k x₀).some ≡ true → Releasable W (releasable v W k x₀).name)
        → (cond s (cond t x₀ (releasable v W k x₀)) no_choice).some ≡ true
        → Releasable W (cond s (cond t x₀ (releasable v W k x₀)) no_choice).name
    go true true d ih h = let p = and_true _ _ d in record { is = p.0; leads = p.1 }
    go true false d ih h = ih h
    go false t d ih h = absurd (false≢true h)

pub lowest_is : (v k : ℕ) (W : Work) → (lowest_pair v k W).name.some ≡ true → Releasable W (lowest_pair v k W).name.name
unfolding lowest_pair
lowest_is v zero W e = absurd (false≢true e)
lowest_is v (suc k) W e = go (releasable v W (tries W) no_choice).some refl (lowest_is (suc v) k W) e
  where
    x : Choice
    x = releasable v W (tries W) no_choice

    go : (t : Bool) → x.some ≡ t → ((lowest_pair (suc v) k W).name.some ≡ true → Releasable W (lowest_pair (suc v) k W).name.name)
        → (cond t (record { at = v; name = x }) (lowest_pair (suc v) k W)).name.some ≡ true
        → Releasable W (cond t (record { at = v; name = x }) (lowest_pair (suc v) k W)).name.name
    go true d ih h = releasable_is v W (tries W) no_choice d
    go false d ih h = ih h

-- ---- what releases write
releases-length : (s v : ℕ) (row : List Block) → All BlockTyped row → length (releases s v row) ≡ release_length * length row
unfolding releases joined All
releases-length s v [] a = refl
releases-length s v (b ∷ row) a =
    omega (arith, length-append (release_bytes s v b.name b.height.0) (releases s v row), length_release b.name a.0.name s v b.height.0, releases-length s v row a.1)

in-typed : (b : Block) (l : List Block) → In b l → All BlockTyped l → BlockTyped b
unfolding All
in-typed b [] i a = absurd i
in-typed b (c ∷ l) (inl e) a = rw e a.0
in-typed b (c ∷ l) (inr i) a = in-typed b l i a.1

all_in_typed : (row l : List Block) → AllIn row l → All BlockTyped l → All BlockTyped row
unfolding All
all_in_typed [] l i a = tt
all_in_typed (b ∷ row) l i a = (in-typed b l i.0 a, all_in_typed row l i.1 a)

pub ancestry_typed : (t : Block) (l : List Block) (b : Block) → descends t l b ≡ true → BlockTyped b → All BlockTyped l → All BlockTyped (ancestry t l b)
unfolding All
ancestry_typed t l b d h a =
    let r = ancestry_last t l b d in
    rw r.1.0 (all_append BlockTyped r.0 (b ∷ []) (all_in_typed r.0 l r.1.1 a) (h, tt))

-- after a release, the kept blocks are held
pub release-blocks : (W : Work) (v : ℕ) (b : Block) → Regular W → blocks (release v b W) ≡ kept b (blocks W)
unfolding release
release-blocks W v b R =
    let k = length (kept b (blocks W)) in
    let put : block_count_of (with_block_count W.memory k) ≡ k =
    count_put W.memory k (omega (arith, R.room, kept_within b (blocks W), (held_within (block_count_of W.memory) W.store).0)) (omega (arith, R.memory_long)) in
    rw put (dropped_held b (block_count_of W.memory) W.store)

-- each block that is written is one that is not held any more
release_out : (W : Work) (v : ℕ) (x : List ℕ) → Releasable W x → Regular W
    → length (release v (held_block W x).block W).out + release_length * length (blocks (release v (held_block W x).block W)) ≤ length W.out + release_length * length (blocks W)
unfolding release
release_out W v x h R =
    let b = (held_block W x).block in
    let row = ancestry (tip W) (blocks W) b in
    let typed = ancestry_typed (tip W) (blocks W) b h.leads (held_block_typed W x R) (all_take BlockTyped (block_count_of W.memory) W.store R.typed.store) in
    omega (
      arith,
      length-append W.out (releases (own W) v row),
      releases-length (own W) v row typed,
      ap length (release-blocks W v b R),
      released_fewer (tip W) (blocks W) b h.leads (held_entry (tip W) (blocks W) x h.is h.leads),
    )

pub d_out : (W : Work) → Regular W → length (rule_d W).out + release_length * length (blocks (rule_d W)) ≤ length W.out + release_length * length (blocks W)
unfolding rule_d
d_out W R = go p.name.some refl
  where
    p : Pair
    p = lowest_pair (lowest (view_now W)) (ballot_views W) W

    next : Bool → Work
    next t = cond t (release p.at (held_block W p.name.name).block W) W

    go : (t : Bool) → p.name.some ≡ t → length (next t).out + release_length * length (blocks (next t)) ≤ length W.out + release_length * length (blocks W)
    go true e = release_out W p.at p.name.name (lowest_is (lowest (view_now W)) (ballot_views W) W e) R
    go false e = omega arith

-- ---- the runs of the rules
pub each_out : (rule : ℕ → Work → Work) (c : ℕ) → ((W : Work) (v : ℕ) → v < last_view → Regular W → Regular (rule v W) × Still W (rule v W))
    → ((W : Work) (v : ℕ) → v < last_view → Regular W → Grows c W (rule v W))
    → (v k : ℕ) (W : Work) → v + k ≤ last_view → Regular W → Grows (c * k) W (each rule v k W)
unfolding each
each_out rule c keeps grows v zero W l R = omega arith
each_out rule c keeps grows v (suc k) W l R =
    let rest = each_out rule c keeps grows (suc v) k (rule v W) (omega arith) (keeps W v (omega arith) R).0 in
    omega (arith, rest, grows W v (omega arith) R, mul-suc c k)

pub again_out : (k : ℕ) (W : Work) → Regular W → Grows (release_length * length (blocks W)) W (again k W)
unfolding again
again_out zero W R = omega arith
again_out (suc k) W R = omega (arith, again_out k (rule_d W) (d_regular W R).0, d_out W R)

-- a window has at most so many views
pub timeout_views_lem : (W : Work) → timeout_views W ≤ timeout_rows
timeout_views_lem W = omega arith

pub ballot_views_lem : (W : Work) → ballot_views W ≤ ballot_rows
ballot_views_lem W = omega arith

-- what all rules write: A and B for each view of kept timeouts, C for each view of kept votes, D for each held block
abbrev pub settle_room : ℕ
settle_room = timeout_length * timeout_rows + (entry_room * timeout_rows + ((block_certificate_length + vote_length) * ballot_rows + release_length * store_length))

pub settle_out : (W : Work) → Regular W → Grows settle_room W (settle W)
unfolding settle
settle_out W R =
    let A = each rule_a (view_now W) (timeout_views W) W in
    let Ra : Regular A = (each_regular rule_a a_regular (view_now W) (timeout_views W) W (omega (arith, R.view_last)) R).0 in
    let B = each rule_b (view_now A) (timeout_views A) A in
    let RB : Regular B = (each_regular rule_b b_regular (view_now A) (timeout_views A) A (omega (arith, Ra.view_last)) Ra).0 in
    let C = each rule_c (lowest (view_now B)) (ballot_views B) B in
    let RC : Regular C = (each_regular rule_c c_regular (lowest (view_now B)) (ballot_views B) B (omega (arith, RB.view_last)) RB).0 in
    let a : length A.out ≤ length W.out + timeout_length * timeout_rows =
    omega (arith, each_out rule_a timeout_length a_regular a_out (view_now W) (timeout_views W) W (omega (arith, R.view_last)) R) in
    let b : length B.out ≤ length A.out + entry_room * timeout_rows =
    omega (arith, each_out rule_b entry_room b_regular b_out (view_now A) (timeout_views A) A (omega (arith, Ra.view_last)) Ra) in
    let c : length C.out ≤ length B.out + (block_certificate_length + vote_length) * ballot_rows =
    omega (arith, each_out rule_c (block_certificate_length + vote_length) c_regular c_out (lowest (view_now B)) (ballot_views B) B (omega (arith, RB.view_last)) RB) in
    omega (arith, a, b, c, again_out (length (blocks C)) C RC, (held_within (block_count_of C.memory) C.store).0, RC.room)
