-- Sending a vote, a commit or a timeout, and releasing a block, keep a replica regular. Assumes nothing.
use Prim.Native.Nat.{ℕ, ◌≤◌}
use native.Mathlib.Omega.{arith}
use mathlib.Core.Path.{◌≡◌, refl, ap}
use mathlib.Core.Bool.{Bool, true, false, cond}
use mathlib.Core.List.{List}
use lib.Dec.{eqb, lit<}
use lib.ListN.{length}
use Rattle.codec.specs.Bytes.{IsBytes}
use Rattle.wire.specs.declared.Timeout.{Timeout}
use Rattle.wire.specs.Content.{timeout}
use Rattle.wire.specs.Encode.{timeout_bytes, encode}
use Rattle.wire.specs.Fit.{IsName, IsU16, IsU64, TimeoutFits, Fits}
use Rattle.wire.proofs.Lengths.{length_timeout}
use Rattle.wire.proofs.Tables.{bytes_encode}
use Rattle.certificate.specs.declared.Certificate.{Certificate}
use Rattle.certificate.specs.Rank.{highest, carried_certificate}
use Rattle.certificate.specs.Order.{carried_in}
use Rattle.blocks.specs.declared.Block.{Block}
use Rattle.blocks.specs.Store.{kept}
use Rattle.blocks.proofs.Dropping.{held_within}
use Rattle.blocks.proofs.Fewer.{kept_within, length-dropped}
use Rattle.memory.specs.Layout.{block_count_of, with_block_count}
use Rattle.memory.proofs.Apart.{votes, commits, timeouts}
use Rattle.memory.proofs.Header.{leaders_refl, count_leaders, length_with_count, bytes_with_count, count_put, count_settings, count_own, count_entry}
use Rattle.counters.specs.declared.Counters.{Counters}
use Rattle.counters.specs.Counters.{locks_of, timing, voting, releasing}
use Rattle.protocol.specs.Work.{Work, view, own, blocks, with_counters, vote_record, commit_record, send, keep_vote, keep_commit, keep_timeout, send_vote, send_commit, own_timeout, send_timeout, release}
use Rattle.protocol.specs.Typed.{BlockTyped, CountersTyped}
use Rattle.protocol.specs.Refusals.{store_length}
use Rattle.protocol.proofs.call.Typing.{highest_typed, dropped_typed}
use Rattle.protocol.proofs.call.Regular.{Regular, Still, still_trans, regular_after, keep_regular, counters_regular, send_regular}

-- a state with the same memory and store
pub same_still : (W W' : Work) → W'.memory ≡ W.memory → W'.store ≡ W.store → Still W W'
same_still W W' m s = record { settings = rw m; own = rw m; leaders = rw m (leaders_refl W.memory); memory = rw m; store = rw s }

-- ---- what is sent is kept
voting_typed : (c : Counters) (v : ℕ) (x : List ℕ) → IsU64 v → IsName x → CountersTyped c → CountersTyped (voting c (record { view = view v; name = x }))
unfolding voting
voting_typed c v x h k t = record { view = t.view; timed = t.timed; high = record { view = h; name = k }; lock = t.lock; weak = t.weak; tip = t.tip }

pub vote_regular : (W : Work) (v : ℕ) (x : List ℕ) → IsU64 v → IsName x → Regular W → Regular (send_vote v x W) × Still W (send_vote v x W)
unfolding send_vote keep_vote voting
vote_regular W v x h k R =
    let W₁ = with_counters W (voting W.counters (record { view = view v; name = x })) in
    let W₂ = send W₁ (vote_record W v x) in
    let R₂ : Regular W₂ = send_regular W₁ _ (counters_regular W _ (voting_typed W.counters v x h k R.typed.counters) R.view_first R.view_last R) in
    let r = keep_regular W₂ votes v (own W) x (omega (arith, R.member, R.few)) k.size k.bytes R₂ in
    (r.0, still_trans W W₂ _ (same_still W W₂ refl refl) r.1)

pub commit_regular : (W : Work) (v : ℕ) (x : List ℕ) → IsName x → Regular W → Regular (send_commit v x W) × Still W (send_commit v x W)
unfolding send_commit keep_commit
commit_regular W v x k R =
    let W₁ = send W (commit_record W v x) in
    let r = keep_regular W₁ commits v (own W) x (omega (arith, R.member, R.few)) k.size k.bytes (send_regular W _ R) in
    (r.0, still_trans W W₁ _ (same_still W W₁ refl refl) r.1)

kind_fits : (b : Bool) → IsU16 (cond b 3 4)
kind_fits true = lit< tt
kind_fits false = lit< tt

-- ---- what a timeout says: the high vote, and what the replica has highest
pub own_high : (W : Work) (v : ℕ) → (own_timeout W v).high ≡ W.counters.high
unfolding own_timeout
own_high W v = refl

kind_back : (b : Bool) → eqb (cond b 3 4) 3 ≡ b
kind_back true = refl
kind_back false = refl

pub own_carries : (W : Work) (v : ℕ) → carried_in (own_timeout W v) ≡ highest (locks_of W.counters)
unfolding own_timeout carried_certificate
own_carries W v =
    let k = highest (locks_of W.counters) in
    ap (λ (b : Bool). let c : Certificate = record { block = b; view = k.view; name = k.name; signers = k.signers } in c) (kind_back k.block)

pub own_timeout_fits : (W : Work) (v : ℕ) → IsU64 v → Regular W → TimeoutFits (own_timeout W v)
unfolding own_timeout
own_timeout_fits W v h R =
    let c = R.typed.counters in
    let k = highest_typed W.counters c in
    record {
      sender = omega (arith, R.member, R.few);
      view = h;
      high_view = c.high.view;
      high_name = c.high.name;
      kind = kind_fits (highest (locks_of W.counters)).block;
      carried_view = k.view;
      carried_name = k.name;
      signers = k.signers;
    }

bytes_timeout : (t : Timeout) → TimeoutFits t → IsBytes (timeout_bytes t)
unfolding Fits encode
bytes_timeout t f = bytes_encode (timeout t) f

timing_typed : (c : Counters) (v : ℕ) → IsU64 v → CountersTyped c → CountersTyped (timing c (view v))
unfolding timing
timing_typed c v h t = record { view = t.view; timed = h; high = t.high; lock = t.lock; weak = t.weak; tip = t.tip }

pub timeout_regular : (W : Work) (v : ℕ) → IsU64 v → Regular W → Regular (send_timeout v W) × Still W (send_timeout v W)
unfolding send_timeout keep_timeout timing
timeout_regular W v h R =
    let f = own_timeout_fits W v h R in
    let e = timeout_bytes (own_timeout W v) in
    let W₁ = send W e in
    let W₂ = keep_timeout W₁ v (own W) e in
    let r : Regular W₂ × Still W₁ W₂ = keep_regular W₁ timeouts v (own W) e (omega (arith, R.member, R.few)) (length_timeout (own_timeout W v) f) (bytes_timeout (own_timeout W v) f) (send_regular W _ R) in (
      counters_regular W₂ (timing W.counters (view v)) (timing_typed W.counters v h R.typed.counters) R.view_first R.view_last r.0,
      still_trans W W₂ _ (still_trans W W₁ W₂ (same_still W W₁ refl refl) r.1) (same_still W₂ _ refl refl),
    )

-- ---- releasing
releasing_typed : (c : Counters) (b : Block) → BlockTyped b → CountersTyped c → CountersTyped (releasing c b)
unfolding releasing
releasing_typed c b h t = record { view = t.view; timed = t.timed; high = t.high; lock = t.lock; weak = t.weak; tip = h }

pub release_regular : (W : Work) (v : ℕ) (b : Block) → BlockTyped b → Regular W → Regular (release v b W) × Still W (release v b W)
unfolding release releasing
release_regular W v b t R =
    let m = W.memory in
    let c = block_count_of m in
    let k = length (kept b (blocks W)) in
    let few : k ≤ store_length = omega (arith, R.room, kept_within b (blocks W), (held_within c W.store).0) in
    let put : block_count_of (with_block_count m k) ≡ k = count_put m k (omega arith) (omega (arith, R.memory_long)) in
    let s : Still W (release v b W) =
    record { settings = count_settings m k; own = count_own m k; leaders = count_leaders m k; memory = length_with_count m k; store = length-dropped b c W.store } in (
      regular_after W (release v b W) R s
          (record { counters = releasing_typed W.counters b t R.typed.counters; memory = bytes_with_count m k R.typed.memory; store = dropped_typed b c W.store R.typed.store })
          R.view_first R.view_last (omega (arith, put)) (rw (count_entry m k) R.entry),
      s,
    )
