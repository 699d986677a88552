-- Logs that go on: the records before a seam, and those of the log behind it, each by the verdict alone. Definitions only.
use Rattle.std.specs.Prelude.{ℕ, ◌≡◌, true, false, cond, None, List, [], ◌∷◌, ◌++◌, eqb, Float}
use Rattle.latch.specs.Latch.{releases}
use Rattle.joint_tick.specs.declared.profile.Profile.{Profile}
use Rattle.audit.specs.Right.{flag_word, margin_in, right}
use Rattle.audit.specs.Verdict.{verdict_of}

-- the last flag of some records; where there is none, that before them
unfoldable pub last_flag : ℕ → List (List ℕ) → ℕ
last_flag before [] = before
last_flag before (r ∷ rs) = last_flag (flag_word r) rs

-- "the latch at a seam is the last flag of the part accepted before it; where that is 0, the next part is checked behind one record that releases a fresh shield"
abbrev pub behind : List ℕ → ℕ → List (List ℕ) → List (List ℕ)
behind release before rs = cond (eqb before 0) (release ∷ rs) rs

-- such a record: right with the planner in control, which its margin releases
pub record Releasing (profile : Profile) (exit : Float) (release : List ℕ) : Type 0 where
  pub planners : right profile false release ≡ true
  pub above : releases exit (margin_in release) ≡ true

-- the records of logs that follow each other, and that each log, so carried, is right
unfoldable pub joined : List (List (List ℕ)) → List (List ℕ)
joined [] = []
joined (p ∷ ps) = p ++ joined ps

abbrev pub PiecesRight : Profile → Float → Float → List ℕ → ℕ → List (List (List ℕ)) → Type 0
PiecesRight profile enter exit release before [] = Unit
PiecesRight profile enter exit release before (p ∷ ps) = (verdict_of profile enter exit (behind release before p) ≡ None) × PiecesRight profile enter exit release (last_flag before p) ps
