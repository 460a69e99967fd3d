use Rattle.std.proofs.Common.{◌≡◌, ◌∙◌, ℕ, ap, arith, length, sym}
use Rattle.std.proofs.lemmas.List.{length-drop, length-take}
use Rattle.codec.specs.Bytes.{patch}
use Rattle.codec.proofs.Le.{put_le_turn, put_le_end}
use Rattle.codec.proofs.Library.{written}
use Rattle.codec.proofs.num.put_le.Goals as goal

pub loop-byte-preserved : goal.loop-byte-preserved
loop-byte-preserved c =
    let a = c.args in
    let l = c.loop-byte in
    let long : length l.byte-items ≡ a.k = omega (arith, length-take {A = ℕ}, length-drop {A = ℕ}) in
    put_le_turn l.byte-items l.byte-index a.k l.rest (omega arith) (omega arith) ∙ l.invariant

pub returns : goal.returns
returns c =
    let a = c.args in
    let l = c.loop-byte in
    let long : length l.byte-items ≡ a.k = omega (arith, length-take {A = ℕ}, length-drop {A = ℕ}) in
    written a.mem.now a.at a.k l.byte-items c.requires long
    ∙ ap (patch a.mem.now a.at) (sym (put_le_end l.byte-items l.byte-index a.k l.rest long (omega arith)) ∙ l.invariant)
