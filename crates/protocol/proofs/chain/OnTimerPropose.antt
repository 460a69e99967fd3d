-- The timer and propose keep the invariant. Assumes nothing.
use Prim.Native.Nat.{ℕ, suc, ◌^◌, ◌≤◌, ◌<◌}
use mathlib.Core.Bool.{false, not, ◌||◌}
use mathlib.Core.List.{List, [], ◌∷◌, ◌++◌}
use mathlib.Core.Logic.{inl, inr}
use mathlib.Core.Path.{◌≡◌, refl, sym, ap, subst, ◌∙◌}
use native.Mathlib.Omega.{arith}
use borrow.Author.Tests.{leb-false, ltb-false}
use lib.ListN.{length}
use lib.Dec.{leb, ltb, eqb}
use Rattle.codec.proofs.Le.{bytes_part}
use Rattle.settings.specs.declared.Settings.{Settings}
use Rattle.settings.specs.Quorum.{largest, last_view, last_height}
use Rattle.codec.specs.Names.{zero_name}
use Rattle.codec.proofs.Order.{same_ne}
use Rattle.wire.specs.Encode.{proposal_bytes, encode}
use Rattle.wire.specs.Content.{certificate_of, Content, proposal}
use Rattle.wire.specs.Fit.{IsName, Fits, Proper}
use Rattle.wire.proofs.Frames.{or_false}
use Rattle.wire.proofs.Facts.{Quiet, Framed}
use Rattle.wire.proofs.Contents.{certificate_back}
use Rattle.certificate.specs.Safe.{safe_certificate}
use Rattle.blocks.specs.declared.Block.{Block}
use Rattle.memory.specs.Layout.{entry_place, entry_length_of, block_count_of, entry_of}
use Rattle.memory.specs.Leaders.{by_list}
use Rattle.safety.specs.Rank.{Cert}
use Rattle.safety.specs.Cluster.{Good, HighVoted, Progress}
use Rattle.safety.specs.Certificates.{cert}
use Rattle.safety.specs.Run.{is_other}
use Rattle.protocol.specs.Work.{Work, settings, n, own, view_now, timed, high_vote_view, tip, blocks, held_block, send}
use Rattle.protocol.specs.Typed.{BlockTyped}
use Rattle.protocol.specs.Refusals.{view_of_progress, store_length, timer_rules, next_block, propose_rules}
use Rattle.protocol.specs.Events.{on_timer, on_propose}
use Rattle.protocol.specs.OneChain.{reads}
use Rattle.protocol.proofs.call.Regular.{Regular, form_room}
use Rattle.protocol.proofs.call.Certificates.{fits_typed, form_fits}
use Rattle.protocol.proofs.chain.Invariant.{ParentHeld, Name, History, R, size, Sent, Entry, Invariant, placement_of}
use Rattle.protocol.proofs.chain.Records.{reads-encode, joined_more, proposal_framed}
use Rattle.protocol.proofs.chain.Actions.{size_is, few, sent_invariant}
use Rattle.protocol.proofs.chain.Progress.{framed_more, all_left, all_right, all_head, RecordIn, record_of, Sound, Recorded, grown, TakenAt}
use Rattle.protocol.proofs.chain.Formed.{certificate_signers}
use Rattle.protocol.proofs.chain.Rules.{timeout_sound}
use Rattle.protocol.proofs.chain.Accepted.{below_is, parent_is, held-parent, count_is, ready_now, proposition_sound}

module _ (set : Settings) (w : History) (H : HighVoted (R set w)) (i : ℕ) (l₀ : List (List ℕ)) where
  abbrev Snd : Work → Type 0
  Snd W = Sound set w i l₀ W

  -- ---- THE TIMER
  pub timer_sound : (v : ℕ) (W : Work) → Regular W → Snd W → Quiet (timer_rules W v) → Snd (on_timer v W)
  unfolding timer_rules
  timer_sound v W reg S t =
      let d = below_is W v t.0 in
      let p = or_false (ltb (view_now W) v) (leb last_view v) t.1.0 in
      let le = ltb-false (view_now W) v p.0 in
      let late = leb-false (view_now W) (timed W) t.1.1.0 in
      timeout_sound set w H i l₀ v W reg S (leb-false last_view v p.1) (omega (arith, d.0, late)) (record { first = d.0; last = omega (arith, le) })

  -- ---- PROPOSE: the own proposal on the entry certificate
  -- the entry certificate, which the invariant knows
  entry_taken : (j u : ℕ) (r : List ℕ) → j < 2 ^ 16 → u < last_view → size set w ≤ largest → Entry set w j u r → TakenAt set w u r
  entry_taken j u r low small h E =
      let back : certificate_of r ≡ E.says = ap certificate_of E.is ∙ certificate_back j E.says low E.fits in
      record {
        taken = record {
          from = j;
          from_low = low;
          is = rw back E.is;
          fits = rw back E.fits;
          proper = rw back E.proper;
          typed = rw back (fits_typed set E.says (omega (arith, h)) E.fits);
          good = rw back (progress_good_lem u (cert (safe_certificate set E.says)) E.progress);
          signers = rw back (certificate_signers set w H E.says E.proper);
        };
        below = small;
        of_view = rw back E.of_view;
        backed = rw back E.progress;
        safe_le = rw back (progress_le u (cert (safe_certificate set E.says)) E.progress);
      }
    where
      progress_good_lem : (u : ℕ) (c : Cert Name) → Progress (R set w) u c → Good (R set w) c
      progress_good_lem u c (inl p) = p.2
      progress_good_lem u c (inr p) = p.safe_good

      progress_le : (u : ℕ) (c : Cert Name) → Progress (R set w) u c → c.view ≤ u
      progress_le u c (inl p) = omega (arith, p.0)
      progress_le u c (inr p) = p.safe_le

  module _ (x : Name) (W : Work) (reg : Regular W) (S : Snd W) (name : IsName x) (t : Quiet (propose_rules W by_list x)) where
    abbrev b : Block
    b = next_block W x

    abbrev r : List ℕ
    r = entry_of W.memory

    abbrev v : ℕ
    v = view_now W

    abbrev q : List ℕ
    q = proposal_bytes (own W) v b.name b.parent b.height.0 r

    abbrev W₀ : Work
    W₀ = send W q

    abbrev Sn₀ : Type 0
    Sn₀ = Recorded set w i l₀ S

    low₀ : Sn₀ → own W < 2 ^ 16
    low₀ a = omega (arith, (S.invariant a).regular.member, (S.invariant a).regular.few)

    size₀ : Sn₀ → size set w ≤ largest
    size₀ a = few set w i v W (l₀ ++ S.made) (S.invariant a)

    turn : ((eqb (high_vote_view W) v || leb last_view v) ≡ false) × (leb v (timed W) ≡ false)
    unfolding propose_rules
    turn =
        let p = or_false (not (eqb (by_list W.memory v) (own W))) _ t.0 in
        let k = or_false (leb v (timed W)) _ p.1 in
        (k.1, k.0)

    small₀ : v < last_view
    small₀ = leb-false last_view v (or_false (eqb (high_vote_view W) v) (leb last_view v) turn.0).1

    entry₀ : (a : Sn₀) → Entry set w (own W) (S.invariant a).certified.before r
    entry₀ a = (S.invariant a).certified.entered

    before_is : (a : Sn₀) → v ≡ suc (S.invariant a).certified.before
    before_is a = (S.invariant a).certified.view_is

    back₀ : (a : Sn₀) → certificate_of r ≡ (entry₀ a).says
    back₀ a = ap certificate_of (entry₀ a).is ∙ certificate_back (own W) (entry₀ a).says (low₀ a) (entry₀ a).fits

    named₀ : x ≡ zero_name → ⊥
    unfolding propose_rules
    named₀ = same_ne x zero_name t.1.0

    typed₀ : Sn₀ → BlockTyped b
    unfolding propose_rules
    typed₀ a =
        let s = (S.invariant a).set_is in
        let p = parent_is W b t.1.1.1.1.0 in
        let k = fits_typed set (entry₀ a).says (omega (arith, size₀ a)) (entry₀ a).fits in
        record { name = name; parent = rw (s, back₀ a) k.name; height = omega (arith, p.1) }

    content₀ : Sn₀ → Content
    content₀ a = proposal (own W) v b.name b.parent b.height.0 (entry₀ a).says

    q_is : (a : Sn₀) → q ≡ encode (content₀ a)
    unfolding encode content₀
    q_is a = ap (proposal_bytes (own W) v b.name b.parent b.height.0) (entry₀ a).is

    q_fits : (a : Sn₀) → Fits (content₀ a)
    unfolding Fits content₀
    q_fits a = (low₀ a, omega (arith, small₀), name, (typed₀ a).parent, (typed₀ a).height, (entry₀ a).fits)

    q_sent : (a : Sn₀) → Sent (size set w) q
    unfolding Proper content₀
    q_sent a = record {
      says = content₀ a;
      is = q_is a;
      fits = q_fits a;
      passes = (named₀, omega (arith, (S.invariant a).regular.member, size_is set w i v W (l₀ ++ S.made) (S.invariant a)), (entry₀ a).proper);
    }

    q-reads : Sn₀ → reads q ≡ is_other
    unfolding content₀
    q-reads a = rw (q_is a) (reads-encode (content₀ a) (q_fits a))

    q_placed : (a : Sn₀) → RecordIn w i q → w.Placed (placement_of b)
    unfolding content₀
    q_placed a z = record_of w i (content₀ a) (q_fits a) (subst (RecordIn w i) (q_is a) z)

    -- the safe block of the entry certificate has a name, on any content of the memory
    safe_name_lem : IsName b.parent
    unfolding entry_of
    safe_name_lem =
        let f = form_fits (n W) r (bytes_part W.memory entry_place (entry_length_of W.memory) reg.typed.memory) reg.entry in
        (fits_typed (settings W) (certificate_of r) (omega (arith, reg.few)) f).name

    q_framed : Framed q
    q_framed = proposal_framed (own W) v x b.parent b.height.0 r name.size safe_name_lem.size (form_room (n W) r reg.few reg.entry)

    S₀ : Snd W₀
    S₀ = record {
      made = S.made ++ (q ∷ []);
      framed = framed_more S.made q S.framed q_framed;
      out_is = ap (λ (o : List ℕ). o ++ q) S.out_is ∙ sym (joined_more S.made q);
      invariant = λ a.
          let z = all_left (RecordIn w i) S.made (q ∷ []) a in
          grown set w i l₀ (λ m. Invariant set w i v W₀ m) S.made q (sent_invariant set w i v W (l₀ ++ S.made) q (q_sent z) (q-reads z) (S.invariant z));
    }

    earlier₀ : Recorded set w i l₀ S₀ → Sn₀
    unfolding S₀
    earlier₀ a = all_left (RecordIn w i) S.made (q ∷ []) a

    latest₀ : Recorded set w i l₀ S₀ → RecordIn w i q
    unfolding S₀
    latest₀ a = all_head (RecordIn w i) q [] (all_right (RecordIn w i) S.made (q ∷ []) a)

    -- what the tests say of the safe block and of the room
    place₀ : Sn₀ → ParentHeld set w (tip W) (blocks W) b × (b.height.0 ≤ last_height)
    unfolding propose_rules
    place₀ a = let p = parent_is W b t.1.1.1.1.0 in (held-parent set w (tip W) (blocks W) b p.0.0 p.0.1, p.1)

    room₀ : (held_block W x).is ≡ false → Sn₀ → length (blocks W) < store_length
    unfolding propose_rules
    room₀ new a =
        let c = count_is set w H i l₀ W (S.invariant a).regular in
        let full : leb store_length (block_count_of W.memory) ≡ false = rw new at t.1.1.1.1.1.0 in
        omega (arith, c, leb-false store_length (block_count_of W.memory) full)

    taken₀ : Sn₀ → TakenAt set w (view_of_progress (certificate_of r)) r
    taken₀ a =
        let u = (S.invariant a).certified.before in
        let e : view_of_progress (certificate_of r) ≡ u = ap view_of_progress (back₀ a) ∙ (entry₀ a).of_view in
        rw e (entry_taken (own W) u r (low₀ a) (omega (arith, before_is a, small₀)) (size₀ a) (entry₀ a))

    pub propose_sound : Snd (on_propose x W)
    unfolding on_propose
    propose_sound =
        proposition_sound set w H i l₀ W₀ S₀ v b r
        (ready_now set w H i l₀ W₀ S₀ v r refl (λ a. taken₀ (earlier₀ a)) (λ a. let z = earlier₀ a in omega (arith, before_is z, ap view_of_progress (back₀ z), (entry₀ z).of_view)))
        (λ a. taken₀ (earlier₀ a))
        (λ a. let z = earlier₀ a in omega (arith, before_is z, ap view_of_progress (back₀ z), (entry₀ z).of_view))
        small₀ (λ a. typed₀ (earlier₀ a)) name.size named₀ (λ a. q_placed (earlier₀ a) (latest₀ a))
        (λ a. ap (λ (z : Settings). (safe_certificate z (certificate_of r)).name) (S.invariant (earlier₀ a)).set_is)
        (λ new a. room₀ new (earlier₀ a)) (λ a. place₀ (earlier₀ a))
