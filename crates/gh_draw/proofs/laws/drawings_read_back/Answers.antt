use Rattle.gh_ast.specs.Programs.{variable_names}
use Rattle.gh_draw.proofs.Refuted.{states_are_drawn}
use Rattle.gh_draw.proofs.laws.drawings_read_back.Goals as goal
use Rattle.gh_draw.proofs.Whole.{read_back}

pub returns : goal.returns
returns c P n k proc xs read at fits of some over values found =
    read_back P n xs read
    (record {
      condition = k;
      procedure = proc;
      of = of;
      at = at;
      fits = fits;
      some = some;
      states = states_are_drawn (variable_names proc) xs over values;
    })
    found
