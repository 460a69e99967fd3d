-- What each accepted call does before the rules run keeps a replica regular, and writes at most `event_room` bytes. Assumes nothing.
use Prim.Native.Nat.{ℕ, suc, ◌+◌, ◌≤◌, ◌<◌}
use native.Mathlib.Omega.{arith}
use mathlib.Core.Path.{◌≡◌, refl, sym, ap, ◌∙◌}
use mathlib.Core.Bool.{Bool, true, false, not, ◌&&◌, ◌||◌, true≢false}
use mathlib.Core.Logic.{inl, inr}
use mathlib.Core.List.{List, [], ◌∷◌}
use borrow.Author.Tests.{ltb-false, leb-false, eqb-true, not-false}
use lib.Dec.{eqb}
use lib.ListN.{length}
use Rattle.settings.specs.Quorum.{last_view, last_height}
use Rattle.codec.specs.Bytes.{IsBytes}
use Rattle.codec.proofs.Le.{bytes_part, bytes_drop}
use Rattle.codec.proofs.Order.{and_true}
use Rattle.wire.specs.declared.Timeout.{Timeout}
use Rattle.wire.specs.Fields.{view_of, count_of, progress_of, vote_length, timeout_length, proposal_head}
use Rattle.wire.specs.Content.{Certificate, by_block, by_timeouts, certificate_of, Content, vote, commit, certificate, timeout, proposal, block, release, content}
use Rattle.wire.specs.Encode.{proposal_bytes, encode}
use Rattle.wire.specs.Fit.{IsName, IsU64, CertificateFits, Fits, TimeoutsProper, CertificateProper, Proper}
use Rattle.wire.specs.Shape.{shape_rules}
use Rattle.wire.proofs.Lengths.{length_timeout, length_proposal}
use Rattle.wire.proofs.Tables.{Stands, stands_encode, encode_stands, length_stands, length_row}
use Rattle.wire.proofs.Contents.{content_stands}
use Rattle.wire.proofs.Accepted.{taken}
use Rattle.wire.proofs.Facts.{Quiet}
use Rattle.certificate.specs.Good.{progress_good}
use Rattle.blocks.specs.declared.Block.{Block}
use Rattle.memory.specs.Layout.{entry_room, entry_of}
use Rattle.memory.proofs.Apart.{votes, commits, timeouts}
use Rattle.memory.specs.Leaders.{by_list}
use Rattle.protocol.specs.Work.{Work, settings, n, own, view_now, held_block, send, keep_vote, keep_commit, keep_timeout, hold}
use Rattle.protocol.specs.Typed.{BlockTyped}
use Rattle.protocol.specs.Refusals.{not_other, view_of_progress, is_held, misplaced, no_room, child, next_block, refusals, propose_rules}
use Rattle.protocol.specs.Events.{progress, on_record, on_timer, on_propose}
use Rattle.protocol.proofs.call.Regular.{EntryForm, Regular, Still, ProgressForm, form_room, still_trans, keep_regular, send_regular, hold_regular}
use Rattle.protocol.proofs.call.Actions.{same_still, timeout_regular}
use Rattle.protocol.proofs.call.Certificates.{form_fits, fits_typed}
use Rattle.protocol.proofs.call.Rules.{progress_regular}
use Rattle.protocol.proofs.call.Written.{Grows, send-out, timeout_out, hold-out, progress_out}
use Rattle.protocol.proofs.call.Proposals.{Done, room_free, proposal_now, proposal_any}

-- propose writes most: a proposal with the longest entry certificate, and a vote
abbrev pub event_room : ℕ
event_room = proposal_head + entry_room + vote_length

done : (c : ℕ) (W W' : Work) → c ≤ event_room → Regular W' × Still W W' → Grows c W W' → Done event_room W W'
done c W W' h r g = record { regular = r.0; still = r.1; written = omega arith }

more : (c : ℕ) (W W' : Work) → c ≤ event_room → Done c W W' → Done event_room W W'
more c W W' h d = record { regular = d.regular; still = d.still; written = omega (arith, d.written) }

-- ---- what the tests say
or_false : (p q : Bool) → (p || q) ≡ false → (p ≡ false) × (q ≡ false)
or_false true q e = absurd (true≢false e)
or_false false q e = (refl, e)

other_low : (W : Work) (j : ℕ) → not_other W j ≡ false → j < n W
other_low W j e = leb-false _ _ (or_false _ _ e).0

placed_high : (W : Work) (b : Block) → misplaced W b ≡ false → b.height.0 ≤ last_height
placed_high W b e = ltb-false _ _ (or_false (not (is_held W b.parent && eqb b.height.0 (suc (held_block W b.parent).block.height.0))) _ e).1

-- ---- a certificate that came in has the form
few_timeouts_lem : (n v low : ℕ) (ts : List Timeout) → TimeoutsProper n v low ts → low ≤ n → low + length ts ≤ n
unfolding TimeoutsProper
few_timeouts_lem n v low [] p h = omega arith
few_timeouts_lem n v low (t ∷ ts) p h = omega (arith, p.1, few_timeouts_lem n v (suc t.sender) ts p.4 p.2)

pub stands_form : (W : Work) (r : List ℕ) (s : ℕ) (k : Certificate) → CertificateFits k → CertificateProper (n W) k → Stands r (certificate s k)
    → EntryForm (n W) r × (view_of r ≡ view_of_progress k)
unfolding CertificateFits CertificateProper
stands_form W r s (by_block v x g) f p h = (inl (h.reads.1.0, length_stands r (certificate s (by_block v x g)) h), h.reads.1.1.1.0)
stands_form W r s (by_timeouts v ts) f p h =
    let row = length_row ts f.2 in
    let count : count_of r ≡ length ts = omega (arith, h.reads.1.1.1.1.0, row) in (
      inr (h.reads.1.0, omega (arith, count, few_timeouts_lem (n W) v 0 ts p (omega arith)), omega (arith, length_stands r (certificate s (by_timeouts v ts)) h, row)),
      h.reads.1.1.1.0,
    )

came_in : (W : Work) (r : List ℕ) (s : ℕ) (k : Certificate) → IsBytes r → CertificateFits k → CertificateProper (n W) k → Stands r (certificate s k)
    → view_of_progress k < last_view → ProgressForm (n W) r
came_in W r s k b f p h low = let e = stands_form W r s k f p h in record { bytes = b; form = e.0; view = omega (arith, e.1) }

progress_done : (W : Work) (r : List ℕ) → ProgressForm (n W) r → Regular W → Done event_room W (progress r W)
progress_done W r f R = done entry_room W _ (omega arith) (progress_regular W r f R) (progress_out W r f R.few)

hold_done : (W : Work) (b : Block) → BlockTyped b → no_room W b.name ≡ false → Regular W → Done event_room W (hold W b)
hold_done W b t free R = done 0 W _ (omega arith) (hold_regular W b t (room_free W b.name free) R) (omega (arith, ap length (hold-out W b)))

-- ---- a record, by what stands in it
by_content : (W : Work) (r : List ℕ) (x : Content) → IsBytes r → Stands r x → Fits x → Proper (n W) x → Quiet (refusals W by_list r x) → Regular W → Done event_room W (on_record r x W)
unfolding on_record refusals Fits Proper keep_vote keep_commit keep_timeout encode
by_content W r (vote j v x) b h f p q R =
    done 0 W _ (omega arith) (keep_regular W votes v j x (omega (arith, other_low W j q.0, R.few)) f.2.size f.2.bytes R) (omega arith)
by_content W r (commit j v x) b h f p q R =
    done 0 W _ (omega arith) (keep_regular W commits v j x (omega (arith, other_low W j q.0, R.few)) f.2.size f.2.bytes R) (omega arith)
by_content W r (certificate j (by_block v x g)) b h f p q R =
    progress_done W r (came_in W r j (by_block v x g) b f.1 p h (leb-false _ _ q.1.0)) R
by_content W r (certificate j (by_timeouts v ts)) b h f p q R =
    progress_done W r (came_in W r j (by_timeouts v ts) b f.1 p h (leb-false _ _ q.1.1.0)) R
by_content W r (timeout t) b h f p q R =
    let l : length r ≡ timeout_length = ap length (sym (encode_stands r (timeout t) b h)) ∙ length_timeout t f in
    done 0 W _ (omega arith) (keep_regular W timeouts t.view.0 t.sender r (omega (arith, other_low W t.sender q.0, R.few)) l b R) (omega arith)
by_content W r (proposal j v x y i k) b h f p q R =
    let inner : Stands (progress_of r) (certificate j k) = rw h.rest (stands_encode (certificate j k) (f.0, f.5)) in
    let before : suc (view_of_progress k) ≡ v = eqb-true (suc (view_of_progress k)) v (and_true (progress_good (settings W) k) _ (not-false _ q.1.1.1.0)).1 in
    let low : v < last_view = leb-false _ _ q.1.1.0 in
    more (entry_room + vote_length) W _ (omega arith)
    (proposal_any W v (child W x y i) (progress_of r) f.1 (record { name = f.2; parent = f.3; height = f.4 })
    (came_in W (progress_of r) j k (bytes_drop proposal_head r b) f.5 p.2 inner (omega arith)) q.1.1.1.1.1.1.1.1.0 R)
by_content W r (block j x y i) b h f p q R = hold_done W (child W x y i) (record { name = f.1; parent = f.2; height = f.3 }) q.1.1.1.1.1.0 R
by_content W r (release j v x i) b h f p q R = absurd p

pub record_done : (W : Work) (r : List ℕ) → IsBytes r → Quiet (shape_rules (n W) r) → Quiet (refusals W by_list r (content r)) → Regular W → Done event_room W (on_record r (content r) W)
record_done W r b s q R =
    let (x, h, f, p) = taken (n W) r b s in
    let e : content r ≡ x = content_stands r x f h in
    rw e (by_content W r x b h f p (rw e at q) R)

-- ---- the timer
pub timer_done : (W : Work) (v : ℕ) → IsU64 v → Regular W → Done event_room W (on_timer v W)
timer_done W v h R = done timeout_length W _ (omega arith) (timeout_regular W v h R) (omega (arith, timeout_out W v h R))

-- ---- propose
bytes_entry : (m : List ℕ) → IsBytes m → IsBytes (entry_of m)
unfolding entry_of
bytes_entry m b = bytes_part m _ _ b

-- the block of a name that passes the tests
pub next_typed : (W : Work) (x : List ℕ) → IsName x → misplaced W (next_block W x) ≡ false → Regular W → BlockTyped (next_block W x)
next_typed W x hx placed R =
    let r = entry_of W.memory in
    let safe = fits_typed (settings W) (certificate_of r) (omega (arith, R.few)) (form_fits (n W) r (bytes_entry W.memory R.typed.memory) R.entry) in
    record { name = hx; parent = safe.name; height = omega (arith, placed_high W (next_block W x) placed) }

pub propose_done : (W : Work) (x : List ℕ) → IsName x → Quiet (propose_rules W by_list x) → Regular W → Done event_room W (on_propose x W)
unfolding on_propose propose_rules
propose_done W x hx q R =
    let r = entry_of W.memory in
    let b = next_block W x in
    let typed = next_typed W x hx q.1.1.1.1.0 R in
    let bytes = proposal_bytes (own W) (view_now W) b.name b.parent b.height.0 r in
    let W₁ = send W bytes in
    let d = proposal_now W₁ b r typed (bytes_entry W.memory R.typed.memory) R.entry q.1.1.1.1.1.0 (send_regular W bytes R) in
    let sent : length W₁.out ≤ length W.out + (proposal_head + entry_room) =
    omega (arith, send-out W bytes, length_proposal x hx b.parent typed.parent (own W) (view_now W) b.height.0 r, form_room (n W) r R.few R.entry) in
    record { regular = d.regular; still = still_trans W W₁ _ (same_still W W₁ refl refl) d.still; written = omega (arith, sent, d.written) }
