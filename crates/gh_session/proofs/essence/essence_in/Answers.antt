use Rattle.std.proofs.Common.{◌∙◌}
use Rattle.gh_session.proofs.essence.essence_in.Goals as goal

pub essence_by-requires : goal.essence_by-requires
essence_by-requires c = record {
  procedures = c.as_slice-ps.ensures.value ∙ c.in_ok-numbers.ensures;
  loops = c.as_slice-ls.ensures.value ∙ c.in_ok-places.ensures;
}
