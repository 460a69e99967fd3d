-- Laws of a row: counting its entries and gathering them. Assumes nothing.
use mathlib.Core.Path.{◌≡◌, refl, sym, ap, ap₂, ◌∙◌}
use mathlib.Core.Bool.{Bool, true, false, cond}
use mathlib.Core.List.{List, [], ◌++◌, append-nil, append_assoc}
use Prim.Native.Nat.{ℕ, zero, suc, ◌+◌, ◌-◌, ◌*◌, ◌^◌, ◌≤◌, ◌<◌}
use native.Mathlib.Nat.{pow-suc, add-zero, mul-suc}
use native.Mathlib.Numerals.{add-one}
use native.Mathlib.Omega.{arith}
use lib.Dec.{lit<}
use lib.ListN.{length, take, drop, length-append}
use Rattle.codec.specs.Bytes.{patch}
use Rattle.codec.proofs.Laws.{length-part, part_lent, patch_nil, patch_append}
use Rattle.certificate.specs.declared.Tally.{Tally}
use Rattle.memory.specs.Kept.{entry_at, has, kept, gathered, backs, tallied, tally}
use Rattle.memory.proofs.Places.{entry_inside}

-- ---- counting
module _ (m : List ℕ) (row : ℕ) (x : List ℕ) where
  -- among the first n replicas at most n back a name, and their set has n bits
  pub tally-count : (n : ℕ) → (tally m row x n).count ≤ n
  unfolding tally tallied
  tally-count zero = omega arith
  tally-count (suc n) = go (backs m row x n) (tally-count n)
    where
      go : (t : Bool) → (tally m row x n).count ≤ n → (cond t (record { count = (tally m row x n).count + 1; signers = (tally m row x n).signers + 2 ^ n }) (tally m row x n)).count ≤ suc n
      go true h = omega arith
      go false h = omega arith

  pub tally-signers : (n : ℕ) → (tally m row x n).signers < 2 ^ n
  unfolding tally tallied
  tally-signers zero = lit< tt
  tally-signers (suc n) = go (backs m row x n) (tally-signers n)
    where
      go : (t : Bool) → (tally m row x n).signers < 2 ^ n → (cond t (record { count = (tally m row x n).count + 1; signers = (tally m row x n).signers + 2 ^ n }) (tally m row x n)).signers < 2 ^ suc n
      go true h = let p : 2 ^ suc n ≡ 2 ^ n * 2 = pow-suc 2 n in omega arith
      go false h = let p : 2 ^ suc n ≡ 2 ^ n * 2 = pow-suc 2 n in omega arith

  -- one replica more
  pub tally_on : (n : ℕ) {c d : Tally} → c ≡ tally m row x n → d ≡ tallied m row x n c → d ≡ tally m row x (n + 1)
  unfolding tally
  tally_on n e f = f ∙ ap (tallied m row x n) e ∙ ap (tally m row x) (sym (add-one n))

-- ---- gathering
module _ (m : List ℕ) (row width : ℕ) where
  pub gather_one_lem : (i : ℕ) → has m row i ≡ true → gathered m row width i 1 ≡ kept m row width i
  unfolding gathered
  gather_one_lem i e = rw e (append-nil (kept m row width i))

  pub gather_none : (i : ℕ) → has m row i ≡ false → gathered m row width i 1 ≡ []
  unfolding gathered
  gather_none i e = rw e

  pub gather_turn : (i n : ℕ) → i < n → gathered m row width i (n - i) ≡ gathered m row width i 1 ++ gathered m row width (i + 1) (n - (i + 1))
  unfolding gathered
  gather_turn i n h =
      let e : n - i ≡ suc (n - (i + 1)) = omega arith in
      rw (e, add-one) (go (has m row i))
    where
      go : (t : Bool) → cond t (kept m row width i ++ gathered m row width (suc i) (n - suc i)) (gathered m row width (suc i) (n - suc i)) ≡ cond t (kept m row width i ++ []) [] ++ gathered m row width (suc i) (n - suc i)
      go true = sym (append_assoc (kept m row width i) [] (gathered m row width (suc i) (n - suc i)))
      go false = refl

  pub gather_end : (i n : ℕ) → n ≤ i → gathered m row width i (n - i) ≡ []
  unfolding gathered
  gather_end i n h = let e : n - i ≡ 0 = omega arith in rw e

  pub length-kept : (i n : ℕ) → i < n → row + (8 + width * n) ≤ length m → length (kept m row width i) ≡ width
  unfolding kept
  length-kept i n h l = length-part m (entry_at row width i) width (omega (arith, entry_inside width i n h))

  pub gather_small : (i n : ℕ) → i < n → row + (8 + width * n) ≤ length m → length (gathered m row width i 1) ≤ width
  gather_small i n h l = go (has m row i) refl
    where
      go : (t : Bool) → has m row i ≡ t → length (gathered m row width i 1) ≤ width
      go true e = omega (arith, ap length (gather_one_lem i e), length-kept i n h l)
      go false e = omega (arith, ap length (gather_none i e))

  pub gathered_le : (i k n : ℕ) → i + k ≤ n → row + (8 + width * n) ≤ length m → length (gathered m row width i k) ≤ width * k
  unfolding gathered
  gathered_le i zero n h l = omega arith
  gathered_le i (suc k) n h l = go (has m row i) (gathered_le (suc i) k n (omega arith) l)
    where
      go : (t : Bool) → length (gathered m row width (suc i) k) ≤ width * k → length (cond t (kept m row width i ++ gathered m row width (suc i) k) (gathered m row width (suc i) k)) ≤ width * suc k
      go true g = omega (arith, length-append (kept m row width i) (gathered m row width (suc i) k), length-kept i n (let b : i < n = omega arith in b) l, mul-suc width k)
      go false g = omega (arith, mul-suc width k)

  -- one entry is put, or none
  module _ (i n at : ℕ) (out : List ℕ) (h : i < n) (l : row + (8 + width * n) ≤ length m) where
    pub put_one : {from : ℕ} {after : List ℕ} → has m row i ≡ true → from ≡ entry_at row width i → after ≡ patch out at (take (from + width - from) (drop from m))
        → (at + width ≡ at + length (gathered m row width i 1)) × (after ≡ patch out at (gathered m row width i 1))
    unfolding kept
    put_one {from} {after} e f p = (
      ap (λ (k : ℕ). at + k) (sym (ap length (gather_one_lem i e) ∙ length-kept i n h l)),
      p ∙ ap (patch out at) (part_lent m from width ∙ ap (λ (k : ℕ). Rattle.codec.specs.Bytes.part m k width) f ∙ sym (gather_one_lem i e)),
    )

    pub put_none : has m row i ≡ false → (at ≡ at + length (gathered m row width i 1)) × (out ≡ patch out at (gathered m row width i 1))
    put_none e = (
      sym (ap (λ (s : List ℕ). at + length s) (gather_none i e) ∙ add-zero at),
      sym (ap (patch out at) (gather_none i e) ∙ patch_nil out at),
    )

  -- one turn of the loop, and its end
  module _ (i n at to : ℕ) (out out₀ : List ℕ) where
    pub gather_on : {to' : ℕ} {out' : List ℕ} → i < n
        → to + length (gathered m row width i (n - i)) ≡ at + length (gathered m row width 0 n)
        → patch out to (gathered m row width i (n - i)) ≡ patch out₀ at (gathered m row width 0 n)
        → to' ≡ to + length (gathered m row width i 1) → out' ≡ patch out to (gathered m row width i 1)
        → (to' + length (gathered m row width (i + 1) (n - (i + 1))) ≡ at + length (gathered m row width 0 n))
        × (patch out' to' (gathered m row width (i + 1) (n - (i + 1))) ≡ patch out₀ at (gathered m row width 0 n))
    gather_on {to'} {out'} h s p e f =
        let turn = gather_turn i n h in
        let a = gathered m row width i 1 in
        let b = gathered m row width (i + 1) (n - (i + 1)) in
        let len : length (gathered m row width i (n - i)) ≡ length a + length b = ap length turn ∙ length-append a b in (
          omega arith,
          ap₂ (λ (x : List ℕ) (y : ℕ). patch x y b) f e ∙ sym (patch_append out to a b) ∙ ap (patch out to) (sym turn) ∙ p,
        )

    pub gather_done : n ≤ i
        → to + length (gathered m row width i (n - i)) ≡ at + length (gathered m row width 0 n)
        → patch out to (gathered m row width i (n - i)) ≡ patch out₀ at (gathered m row width 0 n)
        → (to ≡ at + length (gathered m row width 0 n)) × (out ≡ patch out₀ at (gathered m row width 0 n))
    gather_done h s p =
        let e = gather_end i n h in (
          omega (arith, ap length e),
          sym (patch_nil out to) ∙ ap (patch out to) (sym e) ∙ p,
        )
