-- What types say of their values: of counters and of an event, numbers of 64 bits and names of 32 bytes. Assumes nothing.
use mathlib.Core.List.{List}
use denote.Laws.{Is}
use mir.Val.{Val}
use borrow.Author.Rules.{rules}
use Rattle.counters.specs.declared.Counters.{Counters}
use Rattle.counters.specs.contracts.Counters as row_of
use Rattle.event.specs.declared.Event.{Event}
use Rattle.event.specs.contracts.Event as event_row
use Rattle.protocol.specs.Typed.{CountersTyped}

pub counters_typed : (c : Counters) (vs : List Val) → Is row_of.the_row c vs → CountersTyped c
counters_typed c vs is = search rules

pub event_typed : (e : Event) (vs : List Val) → Is event_row.the_row e vs → CountersTyped e.draft.counters
event_typed e vs is = search rules
