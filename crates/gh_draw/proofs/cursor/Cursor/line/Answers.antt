use Rattle.std.proofs.Common.{refl}
use Rattle.gh_draw.proofs.Scans.{line_taken}
use Rattle.gh_draw.proofs.cursor.Cursor.line.Goals as goal

pub returns : goal.returns
returns c = record {
  stays = λ e. absurd cc;
  line = line_taken c.args.self.now.text.now _ c.in-Some.end c.in-Some.ensures refl;
}
