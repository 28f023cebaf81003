-- A faulting configuration has no step.
use Rattle.std.specs.Prelude.{◌≡◌, []}
use Rattle.std.proofs.Common.{subst, inl, inr}
use Rattle.gh_ast.specs.Plain.{set, new, write, free, call, if, while, return, Statements, no_statements}
use Rattle.gh_ast.specs.Plain.{statement_first, Program}
use Rattle.gh_assert.proofs.Given.{not_given}
use Rattle.gh_machine.specs.Machine.{Config, Pops, StepOn, FaultOn}
use Rattle.gh_machine.specs.Laws.{FaultsStop, EndsStop}
use Rattle.gh_ast.proofs.Lists.{not_both}

faulty : (P : Program) (rest : Statements) (c d : Config) → FaultOn rest c.top.store c.heap → StepOn P rest c d → ⊥
faulty P no_statements c d f st = f
faulty P (statement_first (set x e) rest) c d f st = not_both _ st.0 st.2 f
faulty P (statement_first (new x) rest) c d f st = f
faulty P (statement_first (write x e) rest) c d f st =
    elim f [ inl none ↦ not_both _ st.0 st.1 none | inr none ↦ not_both _ st.2.0 st.2.1 none ]
faulty P (statement_first (free x) rest) c d f st = not_both _ st.0.0 st.0.1 f
faulty P (statement_first (call xs g es) rest) c d f st = not_given c.top.store c.heap es st.1 f st.4
faulty P (statement_first (if test a ca b cb) rest) c d f st = not_both _ st.0 st.1 f
faulty P (statement_first (while at test inv body close) rest) c d f st = not_both _ st.0 st.1 f
faulty P (statement_first (return at es) rest) c d f st = not_given c.top.store c.heap es st.0 f st.2

pub faults_stop : FaultsStop
faults_stop P c d f st = faulty P c.top.rest c d f st

ended : (P : Program) (rest : Statements) (c d : Config) → rest ≡ no_statements → c.below ≡ [] → StepOn P rest c d → ⊥
ended P no_statements c d e alone st = subst (λ below. Pops below c.top.procedure c.top.store c.heap d) alone st
ended P (statement_first s rest) c d e alone st = absurd cc

pub ends_stop : EndsStop
ends_stop P c d (e, alone) st = ended P c.top.rest c d e alone st
