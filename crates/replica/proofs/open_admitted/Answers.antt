-- `replica::open_admitted` meets its contract: one law of proofs/Openings.antt for each way out. Assumes nothing.
use mathlib.Core.Path.{sym, ◌∙◌}
use Rattle.settings.proofs.Leaders.{good_leaders}
use Rattle.settings.specs.Refusal.{number}
use Rattle.replica.specs.Reply.{lent_to}
use Rattle.replica.proofs.Openings.{bad_list, short_memory, short_store, long_enough}
use native.Mathlib.Omega.{arith}
use Rattle.replica.proofs.open_admitted.Goals as goal

pub returns-then-bad_leaders : goal.returns-then-bad_leaders
unfolding number
returns-then-bad_leaders c = λ old l e. let a = c.args in (sym (bad_list (lent_to old a.mem.now l) a.s a.n a.own a.leaders.now (sym c.bad_leaders.ensures ∙ c.if-bad_leaders.true)))

pub returns-then-mem-lt-LENGTH : goal.returns-then-mem-lt-LENGTH
unfolding number
returns-then-mem-lt-LENGTH c = λ old l e. let a = c.args in (sym (short_memory (lent_to old a.mem.now l) a.s a.n a.own a.leaders.now (sym c.bad_leaders.ensures ∙ c.if-bad_leaders.false) c.if-mem-lt-LENGTH.true))

pub returns-then-entries-lt-STORE_LENGTH : goal.returns-then-entries-lt-STORE_LENGTH
unfolding number
returns-then-entries-lt-STORE_LENGTH c = λ old l e. let a = c.args in (sym (short_store (lent_to old a.mem.now l) a.s a.n a.own a.leaders.now (sym c.bad_leaders.ensures ∙ c.if-bad_leaders.false) c.if-mem-lt-LENGTH.false (omega (arith, e, c.if-entries-lt-STORE_LENGTH.true))))

pub open_memory-requires : goal.open_memory-requires
open_memory-requires c = (c.if-mem-lt-LENGTH.false, (good_leaders c.args.n c.args.leaders.now (sym c.bad_leaders.ensures ∙ c.if-bad_leaders.false)).most)

pub returns : goal.returns
unfolding number
returns c = λ old l e. let a = c.args in rw (c.opened.ensures, c.open_memory.ensures) (sym (long_enough (lent_to old a.mem.now l) a.s a.n a.own a.leaders.now (sym c.bad_leaders.ensures ∙ c.if-bad_leaders.false) c.if-mem-lt-LENGTH.false (omega (arith, e, c.if-entries-lt-STORE_LENGTH.false))))
