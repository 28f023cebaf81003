use Rattle.gh_draw.proofs.Reports.{report_is_file}
use Rattle.gh_draw.proofs.laws.reports_are_files.Goals as goal

pub returns : goal.returns
returns c P lines n xs typed others d = report_is_file P lines n xs typed others d
