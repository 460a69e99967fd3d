use lib.ListN.{replicate, length, set, length-set}
use mathlib.Core.Path.{ap, ◌∙◌}
use mathlib.Core.List.{List}
use Prim.Native.Nat.{ℕ, ◌*◌}
use Rattle.codec.specs.Bytes.{patch}
use Rattle.digest.specs.declared.Words.{Words}
use Rattle.digest.specs.Sha256.{compress, be_bytes}
use Rattle.digest.proofs.Padding.{last_one, last_two}
use native.Mathlib.Omega.{arith}
use Rattle.digest.proofs.message.last.Goals as goal

pub returns-then-size-lt56 : goal.returns-then-size-lt56
returns-then-size-lt56 c = let a = c.args in
    c.close.ensures ∙ ap (λ (b : List ℕ). compress a.h (patch (set b (length a.s.now) 0x80) 56 (be_bytes 8 (8 * a.n)))) c.put.ensures
    ∙ last_one a.s.now a.n c.requires a.h c.if-size-lt56.true

pub compress-v-requires : goal.compress-v-requires
compress-v-requires c = omega (arith, length-set c.put.new.mem (length c.args.s.now) 0x80, c.put.auto.mem)

pub returns : goal.returns
returns c = let a = c.args in
    c.close-2.ensures
    ∙ ap (λ (v : Words). compress v (patch (replicate 64 0) 56 (be_bytes 8 (8 * a.n)))) (c.compress-v.ensures ∙ ap (λ (b : List ℕ). compress a.h (set b (length a.s.now) 0x80)) c.put.ensures)
    ∙ last_two a.s.now a.n c.requires a.h c.if-size-lt56.false
