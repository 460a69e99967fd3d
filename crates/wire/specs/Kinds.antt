-- The kinds of records (01: Records, the table; Refusals, 4), each by the number that its header holds. Assumes nothing.
use Rattle.std.specs.Prelude.{ℕ, ◌≡◌, ◌<◌, ◌⊎◌, Option, Result, MatchOption, MatchResult}
use Rattle.wire.specs.declared.Kind.{Kind}
use Rattle.wire.specs.declared.Kind.TheVariants.{Vote, Commit, BlockCertificate, WeakCertificate, Timeout, TimeoutCertificate, Proposal, Block, Release}
use Rattle.wire.specs.declared.UnknownKind.{UnknownKind}

-- the number of a kind
abbrev pub number : Kind → ℕ
number Vote = 1
number Commit = 2
number BlockCertificate = 3
number WeakCertificate = 4
number Timeout = 5
number TimeoutCertificate = 6
number Proposal = 7
number Block = 8
number Release = 9

-- no kind has that number
abbrev pub NoKind : ℕ → Type 0
NoKind n = (n ≡ 0) ⊎ (9 < n)

-- what is read from a number: the kind that has it, or nothing where none has it
abbrev pub IsKind : ℕ → Option Kind → Type 0
IsKind n k = MatchOption k (NoKind n) (λ k. number k ≡ n)

-- the same, with the number beside the error
abbrev pub Decodes : ℕ → Result Kind UnknownKind → Type 0
Decodes n r = MatchResult r (λ k. number k ≡ n) (λ e. (e.0 ≡ n) × NoKind n)
