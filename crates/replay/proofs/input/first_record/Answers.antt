use borrow.Author.Tests.{lt-leb, le-leb}
use mathlib.Core.Path.{sym, ◌∙◌}
use Rattle.replay.specs.Input.{begins_whole}
use Rattle.replay.proofs.Laws.{no_record, record_got}
use Rattle.replay.proofs.input.first_record.Goals as goal

pub returns-then-rest-lt-HEADER : goal.returns-then-rest-lt-HEADER
unfolding begins_whole
returns-then-rest-lt-HEADER c = no_record c.args.rest.now (rw (lt-leb _ _ c.if-rest-lt-HEADER.true))

pub returns-then-not-is_sized : goal.returns-then-not-is_sized
unfolding begins_whole
returns-then-not-is_sized c = no_record c.args.rest.now (rw (le-leb _ _ c.if-rest-lt-HEADER.false, ← c.u32_at-n.ensures, ← c.is_sized.ensures, c.if-not-is_sized.true))

pub returns : goal.returns
returns c = record_got c.args.rest.now c.get.result c.u32_at-n.ensures c.if-rest-lt-HEADER.false (sym c.is_sized.ensures ∙ c.if-not-is_sized.false) c.get.ensures.lookup
