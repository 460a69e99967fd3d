-- Examples in the cluster of six, where a certificate needs four timeouts and two equal high votes build a weak certificate (01: Known results): timeouts of
-- view 3, from replica 0 on. Assumes nothing.
use Rattle.std.specs.Prelude.{ℕ, ◌≡◌, List, [], ◌∷◌, replicate}
use Rattle.settings.specs.Answer.{accepts}
use Rattle.codec.specs.Names.{name_length}
use Rattle.wire.specs.declared.Vote.{Vote}
use Rattle.wire.specs.declared.Carried.{Carried}
use Rattle.wire.specs.Content.{by_timeouts, certificate}
use Rattle.wire.specs.Encode.{encode}
use Rattle.wire.specs.Fit.{All}
use Rattle.protocol.specs.Known.{carries, genesis, sent, votes, four_signers}
use Rattle.decisive.specs.Decisive.{Whose, none, named, decisive_call}

-- two names, A < B
abbrev pub A : List ℕ
A = replicate name_length 1

abbrev pub B : List ℕ
B = replicate name_length 2

abbrev pub no_vote : Vote
no_vote = Rattle.protocol.specs.Known.none

-- high votes, and what the timeout of replica `by` carries (the others carry genesis): the answer
pub record Example : Type 0 where
  pub high : List Vote
  pub carried : Carried
  pub by : ℕ
  pub answer : Whose

-- the call on the record of that certificate, sent by replica 0
abbrev pub Answers : Example → Type 0
Answers x = decisive_call 1 1 0 6 (encode (certificate 0 (by_timeouts 3 (sent x.carried x.by 0 x.high)))) ≡ accepts x.answer

abbrev pub voted_only : List Vote → Whose → Example
voted_only high w = record { high = high; carried = genesis; by = 0; answer = w }

-- without 0 two high votes for A are one, and only B is built; without 1 too, but 0 is lower
abbrev pub two_and_two : Example
two_and_two = voted_only (votes A ∷ votes A ∷ votes B ∷ votes B ∷ no_vote ∷ []) (named 0)

-- 0 gives no high vote, so it is 1
abbrev pub first_gives_none : Example
first_gives_none = voted_only (no_vote ∷ votes A ∷ votes A ∷ votes B ∷ votes B ∷ []) (named 1)

-- without any of three for A it is built of the other two: another certificate, and the same name
abbrev pub three_for_a : Example
three_for_a = voted_only (votes A ∷ votes A ∷ votes A ∷ votes B ∷ no_vote ∷ []) none

-- 4 alone carries a block certificate for B
abbrev pub one_carries : Example
one_carries = record { high = votes A ∷ votes A ∷ votes B ∷ no_vote ∷ no_vote ∷ []; carried = carries 3 B four_signers; by = 4; answer = named 4 }

-- exactly enough
abbrev pub four_timeouts : Example
four_timeouts = voted_only (votes A ∷ votes A ∷ votes B ∷ votes B ∷ []) none

abbrev pub ExamplesHold : Type 0
ExamplesHold = All Answers (two_and_two ∷ first_gives_none ∷ three_for_a ∷ one_carries ∷ four_timeouts ∷ [])
