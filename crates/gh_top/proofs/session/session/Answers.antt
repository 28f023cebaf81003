use Rattle.std.proofs.Common.{◌≡◌, ◌∙◌, ◌<◌, ℕ, List, length}
use Rattle.std.specs.Prelude.{None, Some}
use Rattle.gh_top.specs.Sessions.{most_edited}
use Rattle.gh_top.proofs.SessionLemmas.{absent_told, long_told}
use Rattle.gh_top.proofs.session.session.Goals as goal

pub returns-in_ok-plain_line-in-Absent : goal.returns-in_ok-plain_line-in-Absent
returns-in_ok-plain_line-in-Absent c =
    λ bytes shows.
    let none : bytes ≡ None = rw c.in-Absent.is at shows in
    absent_told bytes _ _ none c.file_refused.ensures.status
    (c.file_refused.ensures.text ∙ c.in_ok-plain_line-in-Absent.ensures)

pub returns-in_ok-plain_line-in-TooLong : goal.returns-in_ok-plain_line-in-TooLong
returns-in_ok-plain_line-in-TooLong c =
    λ bytes shows.
    let long : (text : List ℕ) × (bytes ≡ Some text) × (most_edited < length text) = rw c.in-TooLong.is at shows in
    long_told bytes _ _ long c.file_refused-in-TooLong.ensures.status
    (c.file_refused-in-TooLong.ensures.text ∙ c.in_ok-plain_line-in-TooLong.ensures)
