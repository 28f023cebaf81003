-- The type rules and the kinds of limits: their numbers and their names.
use Rattle.std.specs.Prelude.{ℕ, List, cond, codes, ◌==◌}
use Rattle.gh_top.specs.declared.rule.Rule.{Rule}
use Rattle.gh_top.specs.declared.rule.Rule.TheVariants.{UnknownName, DuplicateName, AssignToParameter, WrongCount}
use Rattle.gh_top.specs.declared.rule.Rule.TheVariants.{ReturnInLoop, UnknownProcedure, SecondLink, DataField}
use Rattle.gh_top.specs.declared.rule.Rule.TheVariants.{NameOutOfContract, RepeatedResult, NoBody, NoLink}
use Rattle.gh_top.specs.declared.rule.LimitKind.{LimitKind}
use Rattle.gh_top.specs.declared.rule.LimitKind.TheVariants.{Procedures, Variables, Atoms, Paths, Steps, Terms}
use Rattle.gh_top.specs.declared.rule.LimitKind.TheVariants.{Versions}

abbrev pub rule_number : Rule → ℕ
rule_number UnknownName = 1
rule_number DuplicateName = 2
rule_number AssignToParameter = 3
rule_number WrongCount = 4
rule_number ReturnInLoop = 5
rule_number UnknownProcedure = 6
rule_number SecondLink = 7
rule_number DataField = 8
rule_number NameOutOfContract = 9
rule_number RepeatedResult = 10
rule_number NoBody = 11
rule_number NoLink = 12

-- the rule of a number; of another number the last one
abbrev pub rule_of : ℕ → Rule
rule_of n =
    cond (n == 1) UnknownName
    (cond (n == 2) DuplicateName
    (cond (n == 3) AssignToParameter
    (cond (n == 4) WrongCount
    (cond (n == 5) ReturnInLoop
    (cond (n == 6) UnknownProcedure
    (cond (n == 7) SecondLink
    (cond (n == 8) DataField
    (cond (n == 9) NameOutOfContract
    (cond (n == 10) RepeatedResult
    (cond (n == 11) NoBody NoLink))))))))))

abbrev pub rule_name : Rule → List ℕ
rule_name UnknownName = codes "UnknownName"
rule_name DuplicateName = codes "DuplicateName"
rule_name AssignToParameter = codes "AssignToParameter"
rule_name WrongCount = codes "WrongCount"
rule_name ReturnInLoop = codes "ReturnInLoop"
rule_name UnknownProcedure = codes "UnknownProcedure"
rule_name SecondLink = codes "SecondLink"
rule_name DataField = codes "DataField"
rule_name NameOutOfContract = codes "NameOutOfContract"
rule_name RepeatedResult = codes "RepeatedResult"
rule_name NoBody = codes "NoBody"
rule_name NoLink = codes "NoLink"

-- what the limit of a number counts; of another number what the last one does
abbrev pub kind_of : ℕ → LimitKind
kind_of n =
    cond (n == 1) Procedures
    (cond (n == 2) Variables
    (cond (n == 3) Atoms
    (cond (n == 4) Paths
    (cond (n == 5) Steps
    (cond (n == 6) Terms Versions)))))

abbrev pub kind_name : LimitKind → List ℕ
kind_name Procedures = codes "procedures"
kind_name Variables = codes "variables"
kind_name Atoms = codes "atoms"
kind_name Paths = codes "paths"
kind_name Steps = codes "steps"
kind_name Terms = codes "terms"
kind_name Versions = codes "versions"
