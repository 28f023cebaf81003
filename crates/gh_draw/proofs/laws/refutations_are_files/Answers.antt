use Rattle.gh_draw.proofs.Reports.{report_of_refuted}
use Rattle.gh_draw.proofs.laws.refutations_are_files.Goals as goal

pub returns : goal.returns
returns g source P first n c xs spells typed other at fits refutes values =
    report_of_refuted source P first n c xs spells typed other at fits refutes values
