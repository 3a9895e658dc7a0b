-- Jobs and their takers, as contracts see them.
use Rattle.std.specs.Prelude.{◌≡◌, ℕ, ◌+◌, ◌<◌, ◌≤◌, ◌++◌, Bool, true, false, List, [], ◌∷◌, All, length, cond}
use Rattle.atomic_table.specs.Seated.{TableId}
use Rattle.pool.specs.Sharing.{times}
use Rattle.pool.specs.declared.rule.Hand.{Hand}

-- jobs dealt out: the indexes below `count`, for so many takers
pub record Dealt : Type 0 where
  pub queue : TableId
  pub count : ℕ
  pub takers : ℕ

-- a taker of these jobs: what it took, in order, and whether it was answered none
pub record Took : Type 0 where
  pub jobs : Dealt
  pub taken : List ℕ
  pub told : Bool

-- a taker that took nothing yet
abbrev pub fresh : Dealt → Took
fresh jobs = record { jobs = jobs; taken = []; told = false }

abbrev pub fresh_of : TableId → ℕ → ℕ → Took
fresh_of queue count takers = fresh (record { queue = queue; count = count; takers = takers })

-- a taker has one part, and waits for its stop until it is told
abbrev pub IsTaking : Bool → Hand → Type 0
IsTaking done v = (v.parts ≡ 1) × (v.told ≡ done) × (v.stops ≡ cond done 0 1)

abbrev pub IsTakerOf : Dealt → Took → Type 0
IsTakerOf jobs taker = taker.jobs ≡ jobs

-- they are takers of these jobs, and as many as were made
pub record AreTheTakersOf (jobs : Dealt) (takers : List Took) : Type 0 where
  pub each : All (IsTakerOf jobs) takers
  pub none_missing : length takers ≡ jobs.takers

-- what they took, taker by taker
abbrev pub taken_by : List Took → List ℕ
taken_by [] = []
taken_by (taker ∷ takers) = taker.taken ++ taken_by takers

-- each index below the count was taken once by one taker or is left, and none is left where a taker was answered none
pub record WereShared (count : ℕ) (takers : List Took) : Type 0 where
  pub left : List ℕ
  pub each : (i : ℕ) → i < count → times i (taken_by takers) + times i left ≡ 1
  pub no_other : (i : ℕ) → count ≤ i → times i (taken_by takers) + times i left ≡ 0
  pub none_left : All (λ taker. taker.told ≡ true → left ≡ []) takers
