use Rattle.gh_draw.proofs.Scans.{too_large}
use Rattle.gh_draw.proofs.cursor.parsed.Goals as goal

pub returns-in-Err : goal.returns-in-Err
returns-in-Err c = too_large c.args.text.now c.in-Err.field-0 c.requires c.in-Err.ensures.value.0
