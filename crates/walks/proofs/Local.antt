-- Locals that a walk lends for one call, and slices that a call returns, as steps. They say nothing of the crate.
--     lend_local, back_local    a local that holds a struct of plain data is lent as a `&mut S`, for a lifetime ν that is made for the call, under the name δ; and is back at the value that the callee left
--     lend_ref, back_ref        a `&κ mut S` is lent again, and comes back
--     lend_array, back_array    a local array is lent as a `&mut [T]`; and its memory is back.        repeated, repeat-typed     the relation of `[v; n]`, and that its machine value has the array's type
--     came_held        as `came` of `Calls.antt`, where the result is no plain data: what it owns is kept, in front of the locals
--     forks            a branch with code behind it
-- Before:   [the local; …]     while it is lent:   [ν's token; the reference; the lender's part; …]     after:   [the local; …]
-- Assumes `Logic`.
use mathlib.Core.Path.{◌≡◌, refl, sym, ap, subst}
use Prim.Native.Nat.{ℕ, zero, suc}
use mathlib.Core.List.{List, [], ◌∷◌}
use lib.ListN.{length, replicate, length-replicate}
use lib.Dec.{T as Holds}
use mathlib.Core.Bool.{Bool, not}
use seplogic.Ra.Ura.{Ura}
use base.Fraction.{full_share}
use mir.Syntax.{Body, Opd as Operand, named, ty_array, place, seq, cond}
use mir.Val.{Val, vptr, vbool, has_ty, WT}
use base.Logic.{ent, id⊢}
use base.Fml.{Lft, GName, Share, Fml, feq, fsep, fat, froom, flft, flent, fres}
use prog.Wp.{Env, Calls, Loops, Wp, spot_of, next, after_seq}
use types.Logic.{Logic}
use contract.Monad.{fact}
use types.Kit.{Goal, Soaks, Item, ‵, raw, ◌⊛◌, some, later, Seq, Step, step, ◌$◌, move, use1, use2, use3, drop, split, pick, rewrite, fsplit, fjoin, feq_l, feq_i, await, nth, put, Post, post, any_q, prop, runs, lands}
use types.Run.{Opd, land, from, stop, init, first, branches}
use types.SemTy.{Body as Held-body, cells, Arr}
use types.Share.{arr_parts}
use types.Tokens.{lft_new, lft_end}
use denote.RattleType.{RattleType}
use denote.Laws.{Is, shows, Makes}
use denote.Memory.{mem, shares, lone, part_at}
use denote.Ref.{MutBor, MutRef}
use denote.Slice.{Room, finally}
use denote.Array.{Array, array_val, Array-Makes, each}
use denote.Shadow.{shadow}
use denote.ArrayMemory.{Single, Array-apart, Array-whole}
use denote.Index.{row, whole_in, whole_out}
use denote.Lend.{Held, LentAgain, lends_ref, ref_back, lends_again, comes_back, lends_slice, slice_back}
use denote.Signature.{type_at}
use denote.Steps.{peeks, owned, heard, only}
use denote.Triple.Entry.{Res, alive}
use denote.Triple.Spec.{triple_of}
use denote.Triple.Clauses.{Ended, Clauses, Lasts, lasts, at_exit, closing}
use borrow.Table.OneValue.{One, part_in, part_out}
use borrow.Rule.Array.Init.{part_room}
use Rattle.walks.proofs.Data.{Data, At, again}
use Rattle.walks.proofs.Lent.{Mut}

-- the reference at (b, o) under the name δ, at the value x
abbrev pub pointing : (R : RattleType) (b o : ℕ) → GName → R.Denot → MutBor R.Denot
pointing R b o δ x = record { ref_ptr = (b, o); ghost_name = δ; now = x }

abbrev pub Ref : (R : RattleType) → Lft → (b o : ℕ) → GName → R.Denot → Fml
Ref R κ b o δ x = (MutRef (named 0) κ R).own_val (pointing R b o δ x) (vptr b o ∷ [])

module _ {M : Type 1} {𝓤 : Ura M} {𝓛 : Logic 𝓤} {K : Type 0} {Γ : List (Item 𝓤)} {G : Goal 𝓤 𝓛.H} where
  pub lend_local : K → Soaks G → (R : RattleType) (D : Data R) → One R → (x : R.Denot) → At D x → (b : ℕ)
      → ((ν : ℕ) (δ : GName) → Seq K 𝓛 (‵ (flft (ν ∷ []) full_share) ∷ ‵ (Ref R (ν ∷ []) b zero δ x) ∷ ‵ (flent (ν ∷ []) (Held-body (mem R) b zero δ)) ∷ Γ) G)
      → Seq K 𝓛 (‵ (fat full_share (lone R.mir) b zero (D.val x)) ∷ Γ) G
  lend_local t z R D one x is b k =
      owned t R (Is R) (D.makes 𝓛) x (D.val x ∷ []) is $ move t (1 ∷ 0 ∷ []) $
      use2 𝓛 (‵ (part_at R full_share x b zero)) (part_in 𝓛 R one full_share x b zero (D.val x)) $ lft_new t z (λ ν. move t (1 ∷ []) $
      use1 𝓛 (later (some (λ (δ : GName). ‵ (Ref R (ν ∷ []) b zero δ x) ⊛ ‵ (flent (ν ∷ []) (Held-body (mem R) b zero δ))))) (lends_ref 𝓛 R (named 0) (ν ∷ []) x b zero) $ await t z $ pick t (λ δ. split t $
      move t (2 ∷ 0 ∷ []) $ k ν δ))

  pub back_local : K → Soaks G → (R : RattleType) (D : Data R) → One R → {ν : ℕ} {δ : GName} (y : R.Denot) (b : ℕ)
      → (At D y → Seq K 𝓛 (‵ (fat full_share (lone R.mir) b zero (D.val y)) ∷ Γ) G)
      → Seq K 𝓛 (‵ (flft (ν ∷ []) full_share) ∷ ‵ (fres δ (R.coded.code y)) ∷ ‵ (flent (ν ∷ []) (Held-body (mem R) b zero δ)) ∷ Γ) G
  back_local t z R D one {ν} {δ} y b k =
      lft_end t z $ move t (0 ∷ 2 ∷ 1 ∷ []) $
      use3 𝓛 (later (‵ (part_at R full_share y b zero))) (ref_back 𝓛 R (ν ∷ []) δ y b zero) $ await t z $
      use1 𝓛 (some (λ (v : Val). ‵ (fat full_share (lone R.mir) b zero v) ⊛ ‵ (R.own_val y (v ∷ [])))) (part_out 𝓛 R one full_share y b zero) $ pick t (λ v. split t $ move t (1 ∷ []) $
      peeks t R (Is R) (shows 𝓛 R) y (v ∷ []) (λ is. drop t $ rewrite t 0 (λ (u : Val). ‵ (fat full_share (lone R.mir) b zero u)) (ap only (D.tells y (v ∷ []) is)) refl $ k (again D y v is)))

  pub lend_ref : K → Soaks G → (R : RattleType) {κ : Lft} {q : Share} {γ : GName} (b o : ℕ) (x : R.Denot)
      → ((ν : ℕ) (δ : GName) → Seq K 𝓛 (‵ (flft (ν ∷ []) full_share) ∷ ‵ (Ref R (ν ∷ []) b o δ x) ∷ ‵ (LentAgain R κ (ν ∷ []) q γ b o δ x) ∷ Γ) G)
      → Seq K 𝓛 (‵ (Ref R κ b o γ x) ∷ ‵ (flft κ q) ∷ Γ) G
  lend_ref t z R {κ} {q} {γ} b o x k =
      lft_new t z (λ ν. move t (1 ∷ 2 ∷ []) $
      use2 𝓛 (later (some (λ (δ : GName). ‵ (Ref R (ν ∷ []) b o δ x) ⊛ ‵ (LentAgain R κ (ν ∷ []) q γ b o δ x)))) (lends_again 𝓛 R (named 0) κ (ν ∷ []) q γ b o (named 0) x) $ await t z $ pick t (λ δ. split t $
      move t (2 ∷ 0 ∷ []) $ k ν δ))

  pub back_ref : K → Soaks G → (R : RattleType) {κ : Lft} {q : Share} {γ : GName} {ν : ℕ} {δ : GName} (b o : ℕ) (x y : R.Denot)
      → Step K 𝓛 (‵ (Ref R κ b o γ y) ∷ ‵ (flft κ q) ∷ Γ) G (‵ (flft (ν ∷ []) full_share) ∷ ‵ (fres δ (R.coded.code y)) ∷ ‵ (LentAgain R κ (ν ∷ []) q γ b o δ x) ∷ Γ) G
  back_ref t z R {κ} {q} {γ} {ν} {δ} b o x y = step (λ s.
      lft_end t z $ move t (0 ∷ 2 ∷ 1 ∷ []) $
      use3 𝓛 (later (‵ (Ref R κ b o γ y) ⊛ ‵ (flft κ q))) (comes_back 𝓛 R (named 0) κ (ν ∷ []) q γ b o δ x y) $ await t z $ split t $ s)

  pub lend_array : K → Soaks G → (R : RattleType) → Makes 𝓛 R (Is R) → Single R.mir → (n : ℕ) (xs : List R.Denot) (v : Val) → Is (Array R n) xs (v ∷ []) → Room R n → length xs ≡ n → (b : ℕ)
      → ((ν : ℕ) (δ : GName) → Seq K 𝓛 (‵ (flft (ν ∷ []) full_share) ∷ ‵ (Mut R (ν ∷ []) b zero δ n xs) ∷ ‵ (flent (ν ∷ []) (Held R n b zero δ)) ∷ Γ) G)
      → Seq K 𝓛 (‵ (fat full_share (ty_array (lone R.mir) n) b zero v) ∷ Γ) G
  lend_array t z R mk one n xs v is room e b k =
      owned t (Array R n) (Is (Array R n)) (Array-Makes 𝓛 R mk n) xs (v ∷ []) is $ move t (1 ∷ 0 ∷ []) $
      use2 𝓛 (‵ (part_at (Array R n) full_share xs b zero)) (part_in 𝓛 (Array R n) refl full_share xs b zero v) $
      use1 𝓛 (‵ ((arr_parts (shares R) n).part full_share xs b zero)) (Array-apart 𝓛 R full_share one n xs b zero) $ fsplit t $ drop t $
      use1 𝓛 (‵ (cells (mem R) xs b zero)) (whole_in 𝓛 R xs b zero) $ lft_new t z (λ ν. move t (1 ∷ []) $
      use1 𝓛 (later (some (λ (δ : GName). ‵ (Mut R (ν ∷ []) b zero δ (length xs) xs) ⊛ ‵ (flent (ν ∷ []) (Held R (length xs) b zero δ))))) (lends_slice 𝓛 R (named 0) (ν ∷ []) xs b zero (subst (Room R) (sym e) room)) $ await t z $ pick t (λ δ. split t $
      rewrite t 0 (λ (m : ℕ). ‵ (Mut R (ν ∷ []) b zero δ m xs)) e refl $ rewrite t 1 (λ (m : ℕ). ‵ (flent (ν ∷ []) (Held R m b zero δ))) e refl $ move t (2 ∷ 0 ∷ []) $ k ν δ))

  pub back_array : K → Soaks G → (R : RattleType) (n : ℕ) {ν : ℕ} {δ : GName} (xs zs : List R.Denot) (b : ℕ)
      → Step K 𝓛 (‵ (froom (ty_array (lone R.mir) n) b zero) ∷ Γ) G
      (‵ (flft (ν ∷ []) full_share) ∷ ‵ (fsep (finally R δ zs) (feq ℕ (length zs) (length xs))) ∷ ‵ (flent (ν ∷ []) (Held R n b zero δ)) ∷ Γ) G
  back_array t z R n {ν} {δ} xs zs b = step (λ s.
      lft_end t z $ move t (1 ∷ []) $ fsplit t $ move t (1 ∷ []) $ drop t $ move t (1 ∷ 2 ∷ 0 ∷ []) $
      use3 𝓛 (later (‵ ((Arr (mem R) n).own_at zs b zero))) (slice_back 𝓛 R (ν ∷ []) δ zs n b zero) $ await t z $ fsplit t $ feq_l t (λ l.
      use1 𝓛 (‵ (row R full_share zs b zero)) (whole_out 𝓛 R zs b zero) $ feq_i t ℕ (length zs) n l $ fjoin t $
      use1 𝓛 (‵ (part_at (Array R n) full_share zs b zero)) (Array-whole 𝓛 R full_share n zs b zero) $
      use1 𝓛 (‵ (froom (ty_array (lone R.mir) n) b zero)) (part_room 𝓛 (Array R n) zs b zero) $ s))

-- ---- `[v; n]`
module _ (R : RattleType) (x : R.Denot) (v : Val) (is : Is R x (v ∷ [])) where
  each_repeated : (n : ℕ) → shadow (each R.Denot R.own_val (replicate n x) (replicate n v))
  each_repeated zero = tt
  each_repeated (suc n) = (is, each_repeated n)

  pub repeated : (n : ℕ) → Is (Array R n) (replicate n x) (array_val (replicate n v) ∷ [])
  repeated n = (replicate n v, ((refl, length-replicate n x), each_repeated n))

-- ---- a call whose result is no plain data
module _ {M : Type 1} {𝓤 : Ura M} {𝓛 : Logic 𝓤} {K : Type 0} {Γ : List (Item 𝓤)} {E : Env 𝓤 𝓛.H} {i : ℕ} where
  open 𝓛 use {H}

  pub came_held : K → {C : Calls 𝓤 H} {Λ : Loops 𝓤 H} {rest : Body} {q : Post 𝓤 H}
      → (T : Ended) (c : Clauses 𝓤 T) (y : (triple_of 𝓛 T.signature (closing 𝓛 T c)).Ghost) (v : Val) (n : ℕ)
      → nth 𝓛 n Γ ≡ ‵ (froom (spot_of 𝓤 H E i).0 (spot_of 𝓤 H E i).1 zero)
      → ((r : Res T.signature y.0.0) → Is (type_at T.signature.result y.0.0) r (v ∷ []) → Holds (has_ty (spot_of 𝓤 H E i).0 v) × WT v)
      → (Φ : Res T.signature y.0.0 → Lasts T y.0.0 y.0.3 → Type 0)
      → ((r : Res T.signature y.0.0) (ws : Lasts T y.0.0 y.0.3) → ent 𝓤 ((c y.0.0 y.0.3).ensures y.1 r (at_exit T y.0.0 y.0.3 ws)) (fact 𝓤 (Φ r ws)))
      → ((r : Res T.signature y.0.0) (ws : Lasts T y.0.0 y.0.3) → Is (type_at T.signature.result y.0.0) r (v ∷ []) → Φ r ws
      → Seq K 𝓛 (‵ ((type_at T.signature.result y.0.0).own_val r (v ∷ [])) ∷ raw (alive 𝓛 T.signature y.0.0 y.0.1) ∷ put 𝓛 n (‵ (fat full_share (spot_of 𝓤 H E i).0 (spot_of 𝓤 H E i).1 zero v)) Γ) (runs C Λ E rest q))
      → Seq K 𝓛 (raw ((triple_of 𝓛 T.signature (closing 𝓛 T c)).post y v) ∷ Γ) (lands C Λ E (place i []) v rest q)
  came_held t T c y v n room wt Φ told k =
      use1 𝓛 (later (some (λ (r : Res T.signature y.0.0). (raw (alive 𝓛 T.signature y.0.0 y.0.1) ⊛ ‵ ((type_at T.signature.result y.0.0).own_val r (v ∷ [])))
      ⊛ some (λ (ws : Lasts T y.0.0 y.0.3). ‵ (lasts T y.0.0 y.0.3 ws) ⊛ raw ((c y.0.0 y.0.3).ensures y.1 r (at_exit T y.0.0 y.0.3 ws)))))) (id⊢ 𝓤 _) $ await t tt $ pick t (λ r.
      split t $ move t (1 ∷ []) $ pick t (λ ws. split t $ move t (1 ∷ []) $ use1 𝓛 (raw (fact 𝓤 (Φ r ws))) (told r ws) $ heard t (Φ r ws) (λ e.
      drop t $ split t $ move t (1 ∷ []) $ peeks t (type_at T.signature.result y.0.0) (Is (type_at T.signature.result y.0.0)) (shows 𝓛 (type_at T.signature.result y.0.0)) r (v ∷ []) (λ is.
      land t (from t (stop t)) (init t (suc (suc n)) room (wt r is)) $ k r ws is e))))

-- ---- a branch, and what follows it. What an arm has to come to is a variable there, so that no check looks into the code that follows
module _ {M : Type 1} {𝓤 : Ura M} {𝓛 : Logic 𝓤} {K : Type 0} {Γ : List (Item 𝓤)} where
  open 𝓛 use {H}

  pub forks : K → {C : Calls 𝓤 H} {Λ : Loops 𝓤 H} {E : Env 𝓤 H} {q : Post 𝓤 H} {c : Operand} {a b rest : Body} {y : Bool} → Opd K 𝓛 Γ E c (vbool y)
      → ((q' : Post 𝓤 H) → ((Δ : List (Item 𝓤)) → Step K 𝓛 Δ (runs C Λ E rest q) Δ (prop (post 𝓤 H q' next))) → Holds y → Seq K 𝓛 Γ (runs C Λ E a q'))
      → ((q' : Post 𝓤 H) → ((Δ : List (Item 𝓤)) → Step K 𝓛 Δ (runs C Λ E rest q) Δ (prop (post 𝓤 H q' next))) → Holds (not y) → Seq K 𝓛 Γ (runs C Λ E b q'))
      → Seq K 𝓛 Γ (runs C Λ E (seq (cond c a b) rest) q)
  forks t {C} {Λ} {E} {q} {c} {a} {b} {rest} o holds fails =
      let joined : Post 𝓤 H = any_q (after_seq 𝓤 H (Wp 𝓤 H C Λ E rest (post 𝓤 H q)) (post 𝓤 H q)) in
      first t $ branches t o (holds joined (λ Δ. step (λ s. record { prf = s.prf }))) (fails joined (λ Δ. step (λ s. record { prf = s.prf })))
