use mathlib.Core.List.{[], ◌∷◌, List}
use Prim.Native.Nat.{◌+◌, ◌*◌}
use mathlib.Core.Path.{sym, ap, ◌∙◌}
use lib.ListN.{drop}
use Rattle.codec.specs.Bytes.{patch}
use Rattle.codec.proofs.Laws.{patch_whole}
use Rattle.digest.specs.Sha256.{spell, digest, be_bytes}
use Rattle.digest.proofs.Padding.{written_4, spell_turn, spell_end}
use native.Mathlib.Omega.{arith}
use mathlib.Core.Path.{refl}
use Rattle.digest.proofs.message.digest.Goals as goal

pub loop-i-init : goal.loop-i-init
unfolding spell be_bytes
loop-i-init c = patch_whole _ _ refl

pub loop-i-preserved : goal.loop-i-preserved
loop-i-preserved c = let l = c.loop-i in
    let h = c.args.h in
    let x = h.a ∷ h.b ∷ h.c ∷ h.d ∷ h.e ∷ h.f ∷ h.g ∷ h.h ∷ [] in
    ap (λ (s : List _). patch s (4 * (l.i + 1)) (spell (drop (l.i + 1) x))) (c.put.ensures ∙ ap (patch l.r (4 * l.i)) (c.to_be_bytes.ensures ∙ written_4 _))
    ∙ spell_turn l.r x l.i (omega arith) ∙ l.invariant

pub returns : goal.returns
unfolding digest
returns c = let l = c.loop-i in sym (spell_end l.r _ l.i (omega arith)) ∙ l.invariant
