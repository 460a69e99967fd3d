-- Which placements the records give that an accepted call writes: those of propose the one of its own proposal; those of record and of the timer none, so
-- that these make no kind 7 and no kind 8. Assumes nothing.
use Prim.Native.Nat.{ℕ, suc, ◌+◌, ◌≤◌}
use native.Mathlib.Omega.{arith}
use mathlib.Core.Path.{◌≡◌, refl, sym, ap, subst, ◌∙◌}
use mathlib.Core.Bool.{Bool, true, false, cond}
use mathlib.Core.Logic.{inl, inr}
use mathlib.Core.List.{List, [], ◌∷◌, ◌++◌, append_assoc, append-nil}
use borrow.Author.Tests.{eq-eqb}
use lib.Dec.{eqb, leb, lit<}
use lib.ListN.{length}
use Rattle.settings.specs.Answer.{accepts}
use Rattle.codec.specs.Bytes.{IsBytes, part, le_nat, le_bytes}
use Rattle.codec.proofs.Le.{bytes_drop}
use Rattle.wire.specs.Fields.{progress_of, proposal_head}
use Rattle.wire.specs.Content.{Certificate, by_block, by_timeouts, certificate_of, Content, vote, commit, certificate, timeout, proposal, block, release, content}
use Rattle.wire.specs.Encode.{header_bytes, vote_bytes, proposal_bytes, release_bytes, timeout_bytes, encode, joined}
use Rattle.wire.specs.Fit.{IsName, IsU16, IsU64, All, CertificateFits, Fits, Proper}
use Rattle.wire.specs.Shape.{shape_rules}
use Rattle.wire.proofs.Rows.{Field, num, raw, Reads, reads_written}
use Rattle.wire.proofs.Tables.{Stands, stands_encode, framed_stands}
use Rattle.wire.proofs.Slots.{all_map, all_impl}
use Rattle.wire.proofs.Contents.{content_stands}
use Rattle.wire.proofs.ReadBack.{read_written}
use Rattle.wire.proofs.Accepted.{taken}
use Rattle.wire.proofs.Facts.{Quiet, Framed, off_judge}
use Rattle.blocks.specs.declared.Block.{Block}
use Rattle.blocks.specs.Store.{ancestry, releases}
use Rattle.memory.specs.Layout.{entry_room, block_count_of, vote_row, entry_of}
use Rattle.memory.specs.Leaders.{by_list}
use Rattle.protocol.specs.Work.{Work, n, own, view_now, tip, blocks, held_block, send, adopt, enter_by, hold, keep_vote, keep_commit, keep_timeout, vote_record, commit_record, send_vote, send_commit, own_timeout, send_timeout, release as release_up_to}
use Rattle.protocol.specs.Typed.{BlockTyped}
use Rattle.protocol.specs.Refusals.{view_of_progress, child, next_block, region_rules, refusals, propose_rules}
use Rattle.protocol.specs.Events.{with_sender, safe_in, may_commit, may_vote, commit_after, progress, proposition_of, on_record, on_timer, on_propose}
use Rattle.protocol.specs.Rules.{settle}
use Rattle.protocol.specs.Applies.{AppliesD, run_d, signers_for, Turn, by_a, by_b, by_c, by_d, Turns, rest, turn}
use Rattle.protocol.specs.Calls.{Replica, begin, record_core, timer_core, propose_core}
use Rattle.protocol.specs.OneChain.{Placement, record_gives, records_give, cut_records}
use Rattle.protocol.proofs.call.Typing.{all_append, all_take}
use Rattle.protocol.proofs.call.Regular.{EntryForm, Regular, form_room}
use Rattle.protocol.proofs.call.Actions.{own_timeout_fits}
use Rattle.protocol.proofs.call.Certificates.{form_fits, sender_form, formed_form, block_form, tally_u64}
use Rattle.protocol.proofs.call.Rules.{held_block_typed}
use Rattle.protocol.proofs.call.Written.{adopt-out, hold-out}
use Rattle.protocol.proofs.call.Output.{ancestry_typed}
use Rattle.protocol.proofs.call.Events.{stands_form, next_typed, record_done, timer_done, propose_done}
use Rattle.protocol.proofs.call.Contents.{quiet_append}
use Rattle.protocol.proofs.call.OneCall.{RegularReplica}
use Rattle.protocol.proofs.loop.Advance.{timeout_window, ballot_window}
use Rattle.protocol.proofs.loop.Loop.{settle_is_the_loop}
use Rattle.protocol.proofs.loop.Settle.{voted_name, turn_regular}
use Rattle.protocol.proofs.chain.Records.{joined_append, vote_framed, release_framed, block_framed, proposal_framed, encode_framed, sender_framed}
use Rattle.protocol.proofs.chain.Rules.{formed_framed}
use Rattle.protocol.proofs.chain.Call.{cut_joined}

-- a whole record that gives no placement
abbrev Plain : List ℕ → Type 0
Plain q = Framed q × (record_gives (content q) ≡ [])

-- what W' has written more than W is such records
record Adds (W W' : Work) : Type 0 where
  pub made : List (List ℕ)
  pub out_is : W'.out ≡ W.out ++ joined made
  pub plain : All Plain made

adds_same : (W W' : Work) → W'.out ≡ W.out → Adds W W'
unfolding All joined
adds_same W W' e = record { made = []; out_is = e ∙ sym (append-nil W.out); plain = tt }

adds_one : (W W' : Work) (q : List ℕ) → W'.out ≡ W.out ++ q → Plain q → Adds W W'
unfolding All joined
adds_one W W' q e p = record { made = q ∷ []; out_is = rw append-nil e; plain = (p, tt) }

adds_then : (W W₁ W₂ : Work) → Adds W W₁ → Adds W₁ W₂ → Adds W W₂
adds_then W W₁ W₂ a b = record {
  made = a.made ++ b.made;
  out_is = b.out_is ∙ ap (λ (o : List ℕ). o ++ joined b.made) a.out_is ∙ append_assoc W.out (joined a.made) (joined b.made)
      ∙ ap (λ (m : List ℕ). W.out ++ m) (sym (joined_append a.made b.made));
  plain = all_append Plain a.made b.made a.plain b.plain;
}

adds_if : (W A B : Work) (t : Bool) → Adds W A → Adds W B → Adds W (cond t A B)
adds_if W A B true a b = a
adds_if W A B false a b = b

-- ---- what is sent
vote_adds : (W : Work) (v : ℕ) (x : List ℕ) → IsName x → Adds W (send_vote v x W)
unfolding send_vote keep_vote content vote_bytes header_bytes le_bytes le_nat part
vote_adds W v x h = adds_one W _ (vote_record W v x) refl (vote_framed 1 (own W) v x h.size, refl)

commit_adds : (W : Work) (v : ℕ) (x : List ℕ) → IsName x → Adds W (send_commit v x W)
unfolding send_commit keep_commit content vote_bytes header_bytes le_bytes le_nat part
commit_adds W v x h = adds_one W _ (commit_record W v x) refl (vote_framed 2 (own W) v x h.size, refl)

timeout_adds : (W : Work) (v : ℕ) → IsU64 v → Regular W → Adds W (send_timeout v W)
unfolding send_timeout keep_timeout encode Fits
timeout_adds W v h R =
    let t = timeout (own_timeout W v) in
    let f = own_timeout_fits W v h R in
    adds_one W _ (timeout_bytes (own_timeout W v)) refl (encode_framed t f, ap record_gives (read_written t f))

-- ---- progress: the certificate's record, and a commit behind a block certificate
form_gives : (k : ℕ) (r : List ℕ) → EntryForm k r → record_gives (content r) ≡ []
unfolding content
form_gives k r (inl f) = rw f.0
form_gives k r (inr f) = rw f.0

commit_after_lem : (k : Certificate) (W : Work) → CertificateFits k → Adds W (commit_after k W)
unfolding CertificateFits
commit_after_lem (by_block v x g) W f = adds_if W _ _ (may_commit v W) (commit_adds W v x f.1) (adds_same W W refl)
commit_after_lem (by_timeouts v ts) W f = adds_same W W refl

progress_adds : (W : Work) (k : ℕ) (r : List ℕ) → IsBytes r → EntryForm k r → Framed r → Adds W (progress r W)
unfolding progress adopt enter_by
progress_adds W k r b f whole =
    let c = certificate_of r in
    let s = with_sender (own W) r in
    let W₁ = adopt W (safe_in W c) in
    let W₃ = enter_by (send W₁ s) (suc (view_of_progress c)) s in
    adds_if W _ _ (leb (view_now W) (view_of_progress c))
    (adds_then W W₃ _ (adds_one W W₃ s refl (sender_framed (own W) r whole, form_gives k s (sender_form (own W) r k f))) (commit_after_lem c W₃ (form_fits k r b f)))
    (adds_same W W₁ refl)

-- ---- the rules: one turn, and any number of them
release_plain : (s v : ℕ) (b : Block) → BlockTyped b → Plain (release_bytes s v b.name b.height.0)
unfolding content release_bytes header_bytes le_bytes le_nat part
release_plain s v b t = (release_framed s v b.name b.height.0 t.name.size, refl)

release_adds : (W : Work) (v : ℕ) (x : List ℕ) → Regular W → AppliesD v x W → Adds W (run_d v x W)
unfolding release_up_to releases
release_adds W v x R a =
    let row = ancestry (tip W) (blocks W) (held_block W x).block in
    let typed = ancestry_typed (tip W) (blocks W) _ a.leads_down (held_block_typed W x R) (all_take BlockTyped (block_count_of W.memory) W.store R.typed.store) in
    record { made = _; out_is = refl; plain = all_map BlockTyped Plain _ row (release_plain (own W) v) typed }

turn_adds : (W W' : Work) → Regular W → Turn W W' → Adds W W'
turn_adds W W' R (by_a v a) = timeout_adds W v (omega (arith, (timeout_window (view_now W) v a.here.window).below)) R
turn_adds W W' R (by_b v _ a) =
    let f = formed_form W.memory v (n W) (own W) R.typed.memory R.memory_long R.few R.member (timeout_window (view_now W) v a.here.window).below in
    progress_adds W (n W) _ f.bytes f.form (formed_framed W R v)
turn_adds W W' R (by_c v x _ _ a) =
    let name = voted_name W R v x a.here in
    let f = block_form (own W) v x (signers_for v W x) (omega (arith, R.member, R.few)) (ballot_window (view_now W) v a.here.window).below name
    (tally_u64 W.memory (vote_row v) x (n W) R.few) (n W) in
    progress_adds W (n W) _ f.bytes f.form (block_framed (own W) v x (signers_for v W x) name.size)
turn_adds W W' R (by_d v x _ _ _ a) = release_adds W v x R a.here

turns_adds : (W W' : Work) → Regular W → Turns W W' → Adds W W'
turns_adds W W' R rest = adds_same W W refl
turns_adds W W' R (turn {W₁ = W₁} t more) = adds_then W W₁ W' (turn_adds W W₁ R t) (turns_adds W₁ W' (turn_regular W W₁ R t).0 more)

-- ---- the events
proposition_adds : (v : ℕ) (b : Block) (r : List ℕ) (W : Work) → IsName b.name → Adds W (cond (eqb v (view_now W)) (adopt W (safe_in W (certificate_of r))) (progress r W))
    → Adds W (proposition_of v b r W)
unfolding proposition_of
proposition_adds v b r W h a =
    let W₁ = cond (eqb v (view_now W)) (adopt W (safe_in W (certificate_of r))) (progress r W) in
    let W₂ = hold W₁ b in
    adds_then W W₁ _ a (adds_then W₁ W₂ _ (adds_same W₁ W₂ (hold-out W₁ b)) (adds_if W₂ _ _ (may_vote v W₂) (vote_adds W₂ v b.name h) (adds_same W₂ W₂ refl)))

-- a record, by what stands in it
by_content : (W : Work) (r : List ℕ) (x : Content) → IsBytes r → Stands r x → Fits x → Proper (n W) x → Adds W (on_record r x W)
unfolding on_record Fits Proper keep_vote keep_commit keep_timeout encode
by_content W r (vote j v x) b h f p = adds_same W _ refl
by_content W r (commit j v x) b h f p = adds_same W _ refl
by_content W r (certificate j k) b h f p = progress_adds W (n W) r b (stands_form W r j k f.1 p h).0 (framed_stands r (certificate j k) h)
by_content W r (timeout t) b h f p = adds_same W _ refl
by_content W r (proposal j v x y i k) b h f p =
    let s = progress_of r in
    let inner : Stands s (certificate j k) = rw h.rest (stands_encode (certificate j k) (f.0, f.5)) in
    proposition_adds v (child W x y i) s W f.2
    (adds_if W _ _ (eqb v (view_now W)) (adds_same W _ (adopt-out W (safe_in W (certificate_of s))))
    (progress_adds W (n W) s (bytes_drop proposal_head r b) (stands_form W s j k f.5 p.2 inner).0 (framed_stands s (certificate j k) inner)))
by_content W r (block j x y i) b h f p = adds_same W _ (hold-out W (child W x y i))
by_content W r (release j v x i) b h f p = absurd p

record_adds : (W : Work) (r : List ℕ) → IsBytes r → Quiet (shape_rules (n W) r) → Adds W (on_record r (content r) W)
record_adds W r b s =
    let (x, h, f, p) = taken (n W) r b s in
    rw (content_stands r x f h) (by_content W r x b h f p)

-- the own proposal, on an entry certificate of any content
module _ (s v : ℕ) (x y : List ℕ) (h : ℕ) (r : List ℕ) (hs : IsU16 s) (hv : IsU64 v) (hx : IsName x) (hy : IsName y) (hh : IsU64 h) (short : length r ≤ entry_room) where
  abbrev q : List ℕ
  q = proposal_bytes s v x y h r

  abbrev fields : List Field
  fields = num 4 (proposal_head + length r) ∷ num 2 7 ∷ num 2 s ∷ num 8 v ∷ raw 32 x ∷ raw 32 y ∷ num 8 h ∷ []

  proposal_reads : Reads q 0 fields
  unfolding All proposal_bytes header_bytes
  proposal_reads =
      reads_written q 0 fields r (omega (arith, short), (lit< tt, (hs, (hv, ((hx.size, hx.bytes), ((hy.size, hy.bytes), (hh, tt))))))) (simp append_assoc)

  proposal_gives : record_gives (content q) ≡ record { name = x; parent = y; height = h } ∷ []
  unfolding content
  proposal_gives =
      let (_, (k, (_, (_, (a, (b, (c, _))))))) = proposal_reads in
      rw k (λ i. record { name = a i; parent = b i; height = c i } ∷ [])

-- ---- the cut
abbrev pub cut : Work → List (List ℕ)
cut W = cut_records (length W.out) W.out

cut_is : (W : Work) (l : List (List ℕ)) → W.out ≡ joined l → All Framed l → cut W ≡ l
cut_is W l e f = rw e (cut_joined l f (length (joined l)) (omega arith))

plain_framed : (l : List (List ℕ)) → All Plain l → All Framed l
plain_framed l = all_impl Plain Framed l (λ q p. p.0)

plain_gives : (l : List (List ℕ)) → All Plain l → records_give l ≡ []
unfolding All
plain_gives [] a = refl
plain_gives (q ∷ l) a = rw a.0.1 (plain_gives l a.1)

-- the rules after an event that wrote such records
settled : (W W₀ W₁ : Work) → Regular W₀ → Adds W W₀ → settle W₀ ≡ W₁ → Adds W W₁
settled W W₀ W₁ R a e = subst (Adds W) e (adds_then W W₀ _ a (turns_adds W₀ (settle W₀) R (settle_is_the_loop W₀ R)))

-- nothing else is written
none : (r : Replica) (W : Work) → Adds (begin r) W → records_give (cut W) ≡ []
none r W a = ap records_give (cut_is W a.made a.out_is (plain_framed a.made a.plain)) ∙ plain_gives a.made a.plain

-- they are written behind one record
one : (W₀ W : Work) → Framed W₀.out → Adds W₀ W → records_give (cut W) ≡ record_gives (content W₀.out)
unfolding All joined
one W₀ W whole a =
    let q = W₀.out in
    ap records_give (cut_is W (q ∷ a.made) a.out_is (whole, plain_framed a.made a.plain))
    ∙ ap (λ (l : List Placement). record_gives (content q) ++ l) (plain_gives a.made a.plain)
    ∙ append-nil (record_gives (content q))

-- ---- THE CALLS
pub record_places_none : (r : Replica) (room : ℕ) (bytes : List ℕ) (W : Work) → RegularReplica r → IsBytes bytes → record_core by_list r room bytes ≡ accepts W → records_give (cut W) ≡ []
unfolding record_core
record_places_none r room bytes W R b e =
    let W₀ = begin r in
    let j = (off_judge _ _ W).0 e in
    let p = quiet_append (region_rules W₀ room) _ j.0 in
    let q = quiet_append (shape_rules (n W₀) bytes) (refusals W₀ by_list bytes (content bytes)) p.1 in
    none r W (settled W₀ (on_record bytes (content bytes) W₀) W (record_done W₀ bytes b q.0 q.1 R).regular (record_adds W₀ bytes b q.0) j.1)

pub timer_places_none : (r : Replica) (room v : ℕ) (W : Work) → RegularReplica r → IsU64 v → timer_core r room v ≡ accepts W → records_give (cut W) ≡ []
unfolding timer_core
timer_places_none r room v W R h e =
    let W₀ = begin r in
    none r W (settled W₀ (on_timer v W₀) W (timer_done W₀ v h R).regular (timeout_adds W₀ v h R) ((off_judge _ _ W).0 e).1)

pub propose_places_one : (r : Replica) (room : ℕ) (x : List ℕ) (W : Work) → RegularReplica r → IsName x → propose_core by_list r room x ≡ accepts W
    → records_give (cut W) ≡ record { name = x; parent = (next_block (begin r) x).parent; height = (next_block (begin r) x).height.0 } ∷ []
unfolding propose_core on_propose propose_rules
propose_places_one r room x W R h e =
    let W₀ = begin r in
    let b = next_block W₀ x in
    let c = entry_of W₀.memory in
    let W₁ = send W₀ (proposal_bytes (own W₀) (view_now W₀) x b.parent b.height.0 c) in
    let j = (off_judge _ _ W).0 e in
    let t = (quiet_append (region_rules W₀ room) _ j.0).1 in
    let typed = next_typed W₀ x h t.1.1.1.1.0 R in
    let short = form_room (n W₀) c R.few R.entry in
    let adopts : Adds W₁ (adopt W₁ (safe_in W₁ (certificate_of c))) = adds_same W₁ _ (adopt-out W₁ (safe_in W₁ (certificate_of c))) in
    one W₁ W (proposal_framed (own W₀) (view_now W₀) x b.parent b.height.0 c h.size typed.parent.size short)
    (settled W₁ (on_propose x W₀) W (propose_done W₀ x h t R).regular (proposition_adds (view_now W₀) b c W₁ h (rw (eq-eqb (view_now W₀) (view_now W₀) refl) adopts)) j.1)
    ∙ proposal_gives (own W₀) (view_now W₀) x b.parent b.height.0 c (omega (arith, R.member, R.few)) (omega (arith, R.view_last)) h typed.parent typed.height short
