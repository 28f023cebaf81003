-- What refutes a problem.
use Rattle.std.proofs.Common.{◌≡◌, ◌≤◌, ◌↔◌, All, IsTrue, true, false, Bool, List, length, refl, subst, sym}
use Rattle.gh_base.specs.Grounds.{Problem}
use Rattle.gh_check.specs.Answers.{IsSectionError}
use Rattle.gh_log.specs.Lines.{LogLine}
use Rattle.gh_log.specs.Sections.{IsValidSection}
use Rattle.gh_log.specs.declared.lines.Section.{Section}
use Rattle.gh_ground.specs.Solving.{IsPlain, RefutesProblem}

-- what can't be isn't told
pub told_not : {P : Type 0} → (P → ⊥) → IsTrue false ↔ P
told_not no_ = (λ t. absurd (let e : false ≡ true = t in cc), λ h. absurd (no_ h))

pub told_so : {P : Type 0} → P → IsTrue true ↔ P
told_so h = (λ _. h, λ _. refl)

-- the lines of what refutes a problem are plain
pub all_plain : (p : Problem) (s : Section) → RefutesProblem p s → All IsPlain s.lines
all_plain p s h k d lt = (h.version k d lt, h.no_deletions k d lt)

pub refutes_so : (p : Problem) (s : Section) → IsValidSection p s.lines → All IsPlain s.lines → s.first ≡ 1
    → length s.lines ≤ 4294967294 → RefutesProblem p s
refutes_so p s valid plain first few = record {
  valid = valid;
  version = λ k d lt. (plain k d lt).0;
  no_deletions = λ k d lt. (plain k d lt).1;
  first = first;
  few = few;
}
