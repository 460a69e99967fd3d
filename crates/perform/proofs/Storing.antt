-- Of any store there is one of well-typed blocks that gives the same answers to a call's questions: so nothing has to be asked of the entries of a
-- lent store. What an event leaves in counters and memory is the same with both, and with the second one the laws of `protocol` hold. Assumes nothing.
use Prim.Native.Nat.{ℕ, zero, suc, ◌^◌, ◌<◌}
use native.Mathlib.Omega.{arith}
use mathlib.Core.Path.{◌≡◌, refl, sym, ap, ◌∙◌}
use mathlib.Core.Bool.{Bool, true, false, cond, not, ◌&&◌, ◌||◌, true≢false, false≢true}
use mathlib.Core.List.{List}
use borrow.Author.Tests.{eqb-true, eqb-false, ne_eqb, lt-leb}
use lib.Dec.{eqb, leb, ltb, lit<}
use lib.ListN.{length, take, replicate, length-replicate}
use Rattle.settings.specs.Quorum.{last_height}
use Rattle.codec.specs.Bytes.{IsBytes}
use Rattle.codec.specs.Names.{same_bytes}
use Rattle.codec.proofs.Le.{bytes_part, bytes_drop}
use Rattle.codec.proofs.Order.{same_refl, same_eq}
use Rattle.wire.specs.Content.{Certificate, by_block, by_timeouts, certificate_of, Content, vote, commit, certificate, timeout, release, content, timeout_of}
use Rattle.wire.specs.Fields.{kind_of, sender_of, view_of, name_of, progress_of, block_name_of, release_height_of}
use Rattle.wire.specs.Fit.{IsName, All, Fits}
use Rattle.wire.specs.Shape.{shape_rules}
use Rattle.wire.proofs.Accepted.{taken}
use Rattle.wire.proofs.Contents.{content_stands}
use Rattle.wire.proofs.Facts.{Quiet}
use Rattle.blocks.specs.declared.Block.{Block}
use Rattle.blocks.specs.Store.{found, find, held}
use Rattle.memory.specs.Layout.{entry_of, block_count_of}
use Rattle.memory.specs.Leaders.{by_list}
use Rattle.protocol.specs.Work.{Work, settings, n, held_block}
use Rattle.protocol.specs.Events.{on_record, on_propose}
use Rattle.protocol.specs.Refusals.{store_length, regular, refusals, propose_rules, no_room, safe_name}
use Rattle.protocol.specs.Typed.{BlockTyped, CountersTyped}
use Rattle.protocol.proofs.call.Events.{event_room, record_done, propose_done}
use Rattle.protocol.proofs.call.Certificates.{form_fits, fits_typed}
use Rattle.protocol.proofs.call.Proposals.{Done, proposal_any}
use Rattle.protocol.proofs.call.Regular.{Regular, rules_regular, hold_regular}
use Rattle.protocol.proofs.call.Written.{hold-out}
use Rattle.act.specs.declared.Draft.{Draft}
use Rattle.act.specs.Draft.{work_of, Ready}
use Rattle.act.proofs.Steps.{empty_store, ready_regular}
use Rattle.act.proofs.Advancing.{progress_form}
use Rattle.event.specs.Event.{HeldIs, HasRoom, Asked, Taken, Proposable, safe_of_entry, proposed_block, said_block}
use Rattle.event.proofs.Records.{content-proposal, content-block}

-- ---- a store of one block alone
module _ (tip b : Block) where
  find_other : (x : List ℕ) (i j : ℕ) → same_bytes b.name x ≡ false → (find x (take i (replicate j b))).is ≡ false
  unfolding find
  find_other x zero j e = refl
  find_other x (suc i) zero e = refl
  find_other x (suc i) (suc j) e = rw e (find_other x i j e)

  -- a name that is not held, and is not the block's
  row_lacks : (s : List Block) (x : List ℕ) (i j : ℕ) → (held tip (take i s) x).is ≡ false → same_bytes b.name x ≡ false → (held tip (take i (replicate j b)) x).is ≡ false
  unfolding held
  row_lacks s x i j h e = go (same_bytes tip.name x) h
    where
      go : (t : Bool) → (cond t (found tip) (find x (take i s))).is ≡ false → (cond t (found tip) (find x (take i (replicate j b)))).is ≡ false
      go true h = h
      go false h = find_other x i j e

  -- a name that is held, and is the block's
  row_holds : (s : List Block) (x : List ℕ) (i j : ℕ) → (held tip (take i s) x).is ≡ true → same_bytes b.name x ≡ true → (held tip (take i (replicate (suc j) b)) x).is ≡ true
  unfolding held find
  row_holds s x i j h e = go (same_bytes tip.name x) i h
    where
      go : (t : Bool) (i : ℕ) → (cond t (found tip) (find x (take i s))).is ≡ true → (cond t (found tip) (find x (take i (replicate (suc j) b)))).is ≡ true
      go true i h = refl
      go false zero h = absurd (false≢true h)
      go false (suc i) h = rw e

  row_height : (s : List Block) (x : List ℕ) (i j : ℕ) → (held tip (take i s) x).is ≡ true → same_bytes b.name x ≡ true → b.height.0 ≡ (held tip (take i s) x).block.height.0
      → (held tip (take i (replicate (suc j) b)) x).block.height.0 ≡ (held tip (take i s) x).block.height.0
  unfolding held find
  row_height s x i j h e k = go (same_bytes tip.name x) i h k
    where
      go : (t : Bool) (i : ℕ) → (cond t (found tip) (find x (take i s))).is ≡ true → b.height.0 ≡ (cond t (found tip) (find x (take i s))).block.height.0
          → (cond t (found tip) (find x (take i (replicate (suc j) b)))).block.height.0 ≡ (cond t (found tip) (find x (take i s))).block.height.0
      go true i h k = refl
      go false zero h k = absurd (false≢true h)
      go false (suc i) h k = rw e k

-- a block of a name; the tip stands for "another name"
abbrev named : List ℕ → ℕ → Block
named x h = record { name = x; parent = x; height = record { 0 = h } }

abbrev only : Block → List ℕ → Bool → Block
only tip x t = cond t (named x 0) tip

not_tip : (tip : Block) (l : List Block) (x : List ℕ) → (held tip l x).is ≡ false → same_bytes tip.name x ≡ false
unfolding held
not_tip tip l x h = go (same_bytes tip.name x) h
  where
    go : (t : Bool) → (cond t (found tip) (find x l)).is ≡ false → t ≡ false
    go true h = absurd (true≢false h)
    go false h = refl

held_again : (tip : Block) (s : List Block) (i : ℕ) (x : List ℕ) (t : Bool) → (held tip (take i s) x).is ≡ t → (held tip (take i (replicate store_length (only tip x t))) x).is ≡ t
held_again tip s i x true h = row_holds tip (named x 0) s x i 127 h (same_refl x)
held_again tip s i x false h = row_lacks tip tip s x i store_length h (not_tip tip (take i s) x h)

all_same : (b : Block) (k : ℕ) → BlockTyped b → All BlockTyped (replicate k b)
unfolding All
all_same b zero t = tt
all_same b (suc k) t = (t, all_same b k t)

only_typed : (tip : Block) (x : List ℕ) (t : Bool) → BlockTyped tip → IsName x → BlockTyped (only tip x t)
only_typed tip x true b n = record { name = n; parent = n; height = lit< tt }
only_typed tip x false b n = b

entry_bytes : (m : List ℕ) → IsBytes m → IsBytes (entry_of m)
unfolding entry_of
entry_bytes m b = bytes_part m _ _ b

-- ---- at a store of one block
module _ (d : Draft) (m o : List ℕ) {size : ℕ} (a : Ready d m o size) (ct : CountersTyped d.counters) (bm : IsBytes m) where
  row_regular : (b : Block) → BlockTyped b → Regular (work_of d m o (replicate store_length b))
  unfolding regular
  row_regular b t =
      rules_regular (work_of d m o (replicate store_length b)) (record { counters = ct; memory = bm; store = all_same b store_length t }) a.long (omega (arith, length-replicate store_length b)) a.regular

  -- THE WITNESS: a store with which an event is as asked, and leaves a regular replica
  pub record Witness (f : Work → Work) (such : Work → Type 0) : Type 0 where
    pub store : List Block
    pub short : length store < 2 ^ 64
    pub given : such (work_of d m o store)
    pub done : Done event_room (work_of d m o store) (f (work_of d m o store))

  -- ---- a record
  module _ (r : List ℕ) (t : Bool) (br : IsBytes r) (s : List Block) (g : Asked r t (work_of d m o s)) (w : Taken m r t) (sq : Quiet (shape_rules (n (work_of d m o s)) r)) where
    abbrev row : List ℕ → List Block
    row x = replicate store_length (only d.counters.tip x t)

    free : (x : List ℕ) → HasRoom m t → HeldIs x t (work_of d m o (row x)) → no_room (work_of d m o (row x)) x ≡ false
    free x h e = rw e (go t h)
      where
        go : (t : Bool) → HasRoom m t → (not t && leb store_length (block_count_of m)) ≡ false
        go true h = refl
        go false h = lt-leb store_length (block_count_of m) (h refl)

    fits : (x : Content) → content r ≡ x → Fits x
    fits x e = let (y, h, f, p) = taken (n (work_of d m o s)) r br sq in let q : y ≡ x = sym (content_stands r y f h) ∙ e in rw q at f

    proposal_witness : kind_of r ≡ 7 → Witness (on_record r (content r)) (Asked r t)
    unfolding on_record Fits
    proposal_witness k =
        let x = name_of r in
        let e = content-proposal r k in
        let f = fits _ e in
        let W = work_of d m o (row x) in
        let h : HeldIs x t W = held_again d.counters.tip s (block_count_of m) x t (g.proposal k) in
        let p = w.proposal k in
        let q = proposal_any W (view_of r) (proposed_block r) (progress_of r) f.1 (record { name = f.2; parent = f.3; height = f.4 }) (progress_form (n W) (progress_of r) (bytes_drop 88 r br) p.0)
        (free x p.1 h) (row_regular (only d.counters.tip x t) (only_typed d.counters.tip x t ct.tip f.2)) in
        record {
          store = row x;
          short = omega (arith, length-replicate store_length (only d.counters.tip x t));
          given = record { proposal = λ i. h; block = λ i. let z : ◌≡◌ {A = ℕ} 7 8 = sym k ∙ i in absurd (omega arith) };
          done = rw e (record { regular = q.regular; still = q.still; written = omega (arith, q.written) });
        }

    block_witness : kind_of r ≡ 8 → Witness (on_record r (content r)) (Asked r t)
    unfolding on_record Fits
    block_witness k =
        let x = block_name_of r in
        let e = content-block r k in
        let f = fits _ e in
        let W = work_of d m o (row x) in
        let h : HeldIs x t W = held_again d.counters.tip s (block_count_of m) x t (g.block k) in
        let q = hold_regular W (said_block r) (record { name = f.1; parent = f.2; height = f.3 }) (λ z. (w.block k).1 (sym h ∙ z))
        (row_regular (only d.counters.tip x t) (only_typed d.counters.tip x t ct.tip f.1)) in
        record {
          store = row x;
          short = omega (arith, length-replicate store_length (only d.counters.tip x t));
          given = record { proposal = λ i. let z : ◌≡◌ {A = ℕ} 8 7 = sym k ∙ i in absurd (omega arith); block = λ i. h };
          done = rw e (record { regular = q.0; still = q.1; written = omega (arith, ap length (hold-out W (said_block r))) });
        }

    -- of another kind: no test asks the store
    refusals_same : (s' : List Block) → (kind_of r ≡ 7 → ⊥) → (kind_of r ≡ 8 → ⊥) → refusals (work_of d m o s) by_list r (content r) ≡ refusals (work_of d m o s') by_list r (content r)
    unfolding content refusals
    refusals_same s' k7 k8 = rw (ne_eqb (kind_of r) 7 k7, ne_eqb (kind_of r) 8 k8) (go (eqb (kind_of r) 1) (eqb (kind_of r) 2) (eqb (kind_of r) 5) (eqb (kind_of r) 9))
      where
        by : (k : Certificate) → refusals (work_of d m o s) by_list r (certificate (sender_of r) k) ≡ refusals (work_of d m o s') by_list r (certificate (sender_of r) k)
        by (by_block v x g) = refl
        by (by_timeouts v ts) = refl

        of : Bool → Bool → Bool → Bool → Content
        of a b c e =
            cond a (vote (sender_of r) (view_of r) (name_of r)) (cond b (commit (sender_of r) (view_of r) (name_of r)) (cond c (timeout (timeout_of r))
            (cond e (release (sender_of r) (view_of r) (name_of r) (release_height_of r)) (certificate (sender_of r) (certificate_of r)))))

        go : (a b c e : Bool) → refusals (work_of d m o s) by_list r (of a b c e) ≡ refusals (work_of d m o s') by_list r (of a b c e)
        go true b c e = refl
        go false true c e = refl
        go false false true e = refl
        go false false false true = refl
        go false false false false = by (certificate_of r)

    other_witness : (kind_of r ≡ 7 → ⊥) → (kind_of r ≡ 8 → ⊥) → Quiet (refusals (work_of d m o s) by_list r (content r)) → Witness (on_record r (content r)) (Asked r t)
    other_witness k7 k8 q =
        record {
          store = empty_store;
          short = omega arith;
          given = record { proposal = λ i. absurd (k7 i); block = λ i. absurd (k8 i) };
          done = record_done (work_of d m o empty_store) r br sq (rw (← refusals_same empty_store k7 k8) q) (ready_regular d m o a ct bm);
        }

    pub record_witness : Quiet (refusals (work_of d m o s) by_list r (content r)) → Witness (on_record r (content r)) (Asked r t)
    record_witness q = go (eqb (kind_of r) 7) (eqb (kind_of r) 8) refl refl
      where
        go : (p₇ p₈ : Bool) → eqb (kind_of r) 7 ≡ p₇ → eqb (kind_of r) 8 ≡ p₈ → Witness (on_record r (content r)) (Asked r t)
        go true p₈ e₇ e₈ = proposal_witness (eqb-true _ _ e₇)
        go false true e₇ e₈ = block_witness (eqb-true _ _ e₈)
        go false false e₇ e₈ = other_witness (eqb-false _ _ e₇) (eqb-false _ _ e₈) q

  -- ---- propose
  module _ (x : List ℕ) (nx : IsName x) (h : ℕ) (low : h < last_height) (s : List Block) (g : Proposable x h (work_of d m o s)) where
    pub propose_witness : Quiet (propose_rules (work_of d m o s) by_list x) → Witness (on_propose x) (Proposable x h)
    unfolding propose_rules safe_of_entry
    propose_witness q =
        let W = work_of d m o s in
        let y = safe_name W (certificate_of (entry_of m)) in
        let b = named y h in
        let s' = replicate store_length b in
        let W' = work_of d m o s' in
        let tip = d.counters.tip in
        let i = block_count_of m in
        let R₀ = ready_regular d m o a ct bm in
        let ny : IsName y = (fits_typed (settings W) (certificate_of (entry_of m)) (omega (arith, R₀.few)) (form_fits (n W) (entry_of m) (entry_bytes m bm) R₀.entry)).name in
        let is : (held_block W y).is ≡ true = un_not (held_block W y).is q.1.1.1.0 in
        let is' : (held_block W' y).is ≡ true = row_holds tip b s y i 127 is (same_refl y) in
        let at : (held_block W' y).block.height.0 ≡ (held_block W y).block.height.0 = row_height tip b s y i 127 is (same_refl y) (sym g.height) in
        let new : (held_block W' x).is ≡ false = row_lacks tip b s x i store_length g.new (apart y is) in
        let Q : Quiet (propose_rules W' by_list x) = (
          q.0,
          (
            q.1.0,
            (
              new,
              (
                ap not is',
                (
                  ap (λ (t : Bool). placed t (held_block W' y).block.height.0) (is' ∙ sym is) ∙ ap (placed (held_block W y).is) at ∙ q.1.1.1.1.0,
                  (ap (λ (t : Bool). not t && leb store_length i) (new ∙ sym g.new) ∙ q.1.1.1.1.1.0, tt),
                ),
              ),
            ),
          ),
        ) in
        record {
          store = s';
          short = omega (arith, length-replicate store_length b);
          given = record { new = new; height = at ∙ g.height };
          done = propose_done W' x nx Q (row_regular b (record { name = ny; parent = ny; height = omega (arith, low) }));
        }
      where
        un_not : (t : Bool) → not t ≡ false → t ≡ true
        un_not true e = refl
        un_not false e = absurd (true≢false e)

        placed : Bool → ℕ → Bool
        placed t k = not (t && eqb (suc k) (suc k)) || ltb last_height (suc k)

        apart : (y : List ℕ) → (held_block (work_of d m o s) y).is ≡ true → same_bytes y x ≡ false
        apart y is = go (same_bytes y x) refl
          where
            go : (t : Bool) → same_bytes y x ≡ t → same_bytes y x ≡ false
            go true e = absurd (true≢false (sym is ∙ ap (λ (z : List ℕ). (held_block (work_of d m o s) z).is) (same_eq y x e) ∙ g.new))
            go false e = e
