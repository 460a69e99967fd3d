-- A list of timeouts as a timeout certificate, and which certificates are safe ones of it, whatever the order between candidates. Assumes nothing.
use Rattle.std.specs.Prelude.{Bool, true, List, ◌≡◌, ℕ, ◌≤◌, ◌<◌, T, length}
use Rattle.settings.specs.declared.Settings.{Settings}
use Rattle.settings.specs.Quorum.{weak_quorum, timeout_quorum}
use Rattle.wire.specs.Fit.{All}
use Rattle.certificate.specs.Order.{only}
use Rattle.safety.specs.Lists.{In}
use Rattle.safety.specs.Count.{Ascend}
use Rattle.safety.specs.Rank.{Cert, ◌⊑◌, weak_of}
use Rattle.safety.specs.Cluster.{Cluster, Timeout, size, Good}

-- timeouts as a machine holds them: who sent one, what it says, and a test for a high vote
pub record Held (E Name : Type 0) : Type 0 where
  pub from : E → ℕ
  pub says : E → Timeout Name
  pub gives : ℕ → Name → E → Bool
  pub gives_is : (u : ℕ) (x : Name) (e : E) → gives u x e ≡ true → ((says e).high_view ≡ u) × ((says e).high_name ≡ x)
  pub is_given : (u : ℕ) (x : Name) (e : E) → (says e).high_view ≡ u → (says e).high_name ≡ x → gives u x e ≡ true

module _ {E Name : Type 0} (H : Held E Name) where
  -- the timeouts that give x in view u as high vote are enough for a weak certificate
  pub record Backed (s : Settings) (l : List E) (u : ℕ) (x : Name) : Type 0 where
    pub voted : 0 < u
    pub enough : weak_quorum s ≤ length (only (H.gives u x) l)

  -- the candidates: the certificates carried, and a weak one for each high vote that enough timeouts give
  pub data Candidate (s : Settings) (l : List E) : Cert Name → Type 0 where
    carried : (e : E) → In e l → Candidate s l (H.says e).carried
    built : (u : ℕ) (x : Name) → Backed s l u x → Candidate s l (weak_of u x)

  -- a safe certificate: a candidate, and no candidate ranks higher
  pub record Chosen (s : Settings) (l : List E) (c : Cert Name) : Type 0 where
    pub candidate : Candidate s l c
    pub over_carried : All (λ e. (H.says e).carried ⊑ c) l
    pub over_built : (u : ℕ) (x : Name) → Backed s l u x → weak_of u x ⊑ c

  module _ (R : Cluster Name) (w : ℕ) where
    -- a good timeout of view w, truly made by its sender if that is honest
    pub record Fine (e : E) : Type 0 where
      pub of_view : (H.says e).view ≡ w
      pub high_le : (H.says e).high_view ≤ w
      pub carried_good : Good R (H.says e).carried
      pub carried_le : (H.says e).carried.view ≤ w
      pub truly : H.from e < size R → T (R.honest (H.from e)) → R.TimedOut (H.from e) (H.says e)

    pub record GoodTimeouts (l : List E) : Type 0 where
      pub ascend : Ascend H.from (size R) 0 l
      pub enough : timeout_quorum R.set ≤ length l
      pub fine : All Fine l
