use Rattle.gh_types.proofs.FirstLemmas.{first_either}
use Rattle.gh_types.proofs.check.first_fault.Goals as goal

pub returns : goal.returns
returns c =
    first_either _ _ _ _ _ c.earlier.ensures (rw c.as_slice.ensures.value at c.in_struct-in_fields.ensures)
    (rw c.as_slice-2.ensures.value at c.in_ok-in_rest.ensures)
