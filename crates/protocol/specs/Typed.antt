-- What the types of the interface say of counters, memory, store and input: bytes, names of 32 bytes, numbers of 64 bits. Any bits are such a value.
-- Assumes nothing.
use Rattle.codec.specs.Bytes.{IsBytes}
use Rattle.wire.specs.declared.Vote.{Vote}
use Rattle.wire.specs.Fit.{IsName, IsU64, All}
use Rattle.certificate.specs.declared.Certificate.{Certificate}
use Rattle.blocks.specs.declared.Block.{Block}
use Rattle.counters.specs.declared.Signed.{Signed}
use Rattle.counters.specs.declared.Counters.{Counters}
use Rattle.protocol.specs.Work.{Work}

pub record VoteTyped (v : Vote) : Type 0 where
  pub view : IsU64 v.view.0
  pub name : IsName v.name

pub record SignedTyped (s : Signed) : Type 0 where
  pub view : IsU64 s.view.0
  pub name : IsName s.name
  pub signers : IsU64 s.signers

pub record CertificateTyped (k : Certificate) : Type 0 where
  pub view : IsU64 k.view.0
  pub name : IsName k.name
  pub signers : IsU64 k.signers

pub record BlockTyped (b : Block) : Type 0 where
  pub name : IsName b.name
  pub parent : IsName b.parent
  pub height : IsU64 b.height.0

pub record CountersTyped (c : Counters) : Type 0 where
  pub view : IsU64 c.view.0
  pub timed : IsU64 c.timed.0
  pub high : VoteTyped c.high
  pub lock : SignedTyped c.lock
  pub weak : SignedTyped c.weak
  pub tip : BlockTyped c.tip

-- a replica at work; what it has written is no matter of types
pub record Typed (W : Work) : Type 0 where
  pub counters : CountersTyped W.counters
  pub memory : IsBytes W.memory
  pub store : All BlockTyped W.store
