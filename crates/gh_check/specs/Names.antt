-- The numbers and the names of faults.
use Rattle.std.specs.Prelude.{ℕ, List, cond, codes, ◌==◌}
use Rattle.gh_check.specs.declared.fault.LogFault.{LogFault}
use Rattle.gh_check.specs.declared.fault.FaultKind.{FaultKind}
use Rattle.gh_check.specs.declared.fault.FaultKind.TheVariants.{NotInstance, NotClause, NotLemma, NotImplied}
use Rattle.gh_check.specs.declared.fault.FaultKind.TheVariants.{NoEmptyClause, NoSuchLine}

abbrev pub fault_number : FaultKind → ℕ
fault_number NotInstance = 1
fault_number NotClause = 2
fault_number NotLemma = 3
fault_number NotImplied = 4
fault_number NoEmptyClause = 5
fault_number NoSuchLine = 6

-- the fault of a number; of another number the last one
abbrev pub fault_kind : ℕ → FaultKind
fault_kind n =
    cond (n == 1) NotInstance
    (cond (n == 2) NotClause
    (cond (n == 3) NotLemma
    (cond (n == 4) NotImplied
    (cond (n == 5) NoEmptyClause NoSuchLine))))

-- a fault of a line
abbrev pub fault_at : FaultKind → ℕ → LogFault
fault_at kind line = record { number = fault_number kind; line = line }

abbrev pub fault_name : FaultKind → List ℕ
fault_name NotInstance = codes "NotInstance"
fault_name NotClause = codes "NotClause"
fault_name NotLemma = codes "NotLemma"
fault_name NotImplied = codes "NotImplied"
fault_name NoEmptyClause = codes "NoEmptyClause"
fault_name NoSuchLine = codes "NoSuchLine"
