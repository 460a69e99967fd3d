-- The releases of a row of blocks, one record more. Assumes nothing.
use mathlib.Core.Path.{◌≡◌, sym, ◌∙◌, ap}
use Prim.Native.Nat.{ℕ, ◌+◌, ◌*◌}
use native.Mathlib.Omega.{arith}
use mathlib.Core.List.{List, [], ◌∷◌, ◌++◌, append-nil, append_assoc}
use lib.ListN.{length, length-append}
use Rattle.codec.specs.Bytes.{patch}
use Rattle.codec.proofs.Laws.{patch_nil, patch_append}
use Rattle.codec.proofs.Le.{length-le_bytes}
use Rattle.wire.specs.Encode.{release_bytes, joined}
use Rattle.wire.proofs.Lengths.{length_header}
use Rattle.blocks.specs.Store.{releases}
use Rattle.blocks.specs.declared.Block.{Block}

pub length_release : (sender view : ℕ) (name : List ℕ) (height : ℕ) → length name ≡ 32 → length (release_bytes sender view name height) ≡ 56
unfolding release_bytes
length_release sender view name height e = simp (length-append, length_header, length-le_bytes, e)

pub releases_more : (sender view : ℕ) (row : List Block) (b : Block) → releases sender view (row ++ (b ∷ [])) ≡ releases sender view row ++ release_bytes sender view b.name b.height.0
unfolding releases joined
releases_more sender view [] b = append-nil _
releases_more sender view (a ∷ row) b =
    ap (λ (l : List ℕ). release_bytes sender view a.name a.height.0 ++ l) (releases_more sender view row b)
    ∙ sym (append_assoc (release_bytes sender view a.name a.height.0) (releases sender view row) (release_bytes sender view b.name b.height.0))

-- what stands after a row's releases were written from place at on: r is the place behind them, and w what is left there
abbrev pub Written : (sender view at : ℕ) → List ℕ → List Block → ℕ → List ℕ → Type 0
Written sender view at out row r w = (r ≡ at + 56 * length row) × ((length (releases sender view row) ≡ 56 * length row) × (w ≡ patch out at (releases sender view row)))

pub written_none : (sender view at : ℕ) (out : List ℕ) → Written sender view at out [] at out
unfolding releases joined
written_none sender view at out = (omega arith, (omega arith, sym (patch_nil out at)))

pub written_more : (sender view at : ℕ) (out : List ℕ) (row more : List Block) (b : Block) (p r : ℕ) (v w : List ℕ) → length b.name ≡ 32 → more ≡ row ++ (b ∷ [])
    → Written sender view at out row p v → (r ≡ p + 56) × (w ≡ patch v p (release_bytes sender view b.name b.height.0)) → Written sender view at out more r w
written_more sender view at out row more b p r v w size e before here =
    let one : List ℕ = release_bytes sender view b.name b.height.0 in
    let longer : length more ≡ length row + 1 = ap length e ∙ length-append row (b ∷ []) in
    let bytes-are : releases sender view more ≡ releases sender view row ++ one = ap (releases sender view) e ∙ releases_more sender view row b in
    let place : p ≡ at + length (releases sender view row) = before.0 ∙ ap (λ (k : ℕ). at + k) (sym before.1.0) in (
      omega (arith, here.0, before.0, longer),
      (
        omega (arith, ap length bytes-are ∙ length-append (releases sender view row) one, length_release sender view b.name b.height.0 size, before.1.0, longer),
        here.1
            ∙ ap (λ (l : List ℕ). patch l p one) before.1.1
            ∙ ap (λ (k : ℕ). patch (patch out at (releases sender view row)) k one) place
            ∙ sym (patch_append out at (releases sender view row) one)
            ∙ ap (patch out at) (sym bytes-are),
      ),
    )
