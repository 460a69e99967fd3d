use borrow.Author.Rules.{rules}
use Rattle.std.proofs.Common.{tests}
use Rattle.std.proofs.lemmas.Iterator.{YieldsList-from_slice}
use Rattle.std.proofs.lemmas.Iterator.Search.{position_from_yields_List}
use Rattle.codec.specs.Names.{same_bytes}
use Rattle.blocks.specs.declared.Block.{Block}
use Rattle.blocks.proofs.Finding.{place_is}
use Rattle.blocks.proofs.place.Goals as goal

pub returns : goal.returns
returns c =
    let xs = c.args.entries.now in
    let p =
    position_from_yields_List (λ (b : Block). same_bytes b.name c.args.name) _ _ c.position.result c.position.ensures.ran (YieldsList-from_slice xs cc) (λ x b q k. search (rules, tests)) in
    rw (place_is c.args.name xs) at p
