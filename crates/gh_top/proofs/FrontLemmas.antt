-- From a refusal of a lower crate to the refusal of the text.
use Rattle.std.proofs.Common.{◌≡◌, ℕ, ◌≤◌, List, length, refl, inl, inr}
use Rattle.std.specs.Prelude.{Some, Result, IfErr, IsErrAnd}
use Rattle.std.proofs.lemmas.Result.{err_from_is_err_and}
use Rattle.gh_ast.specs.Plain.{Program}
use Rattle.gh_ast.specs.Rules.{IsTyped}
use Rattle.gh_ast.specs.Limits.{KeepsLimits}
use Rattle.gh_parse.specs.Parsing.{IsParsed, IsParseRefusal}
use Rattle.gh_parse.specs.declared.error.ParseError.{ParseError}
use Rattle.gh_parse.specs.declared.error.ParseError.TheVariants as parsing
use Rattle.gh_types.specs.Checking as checked
use Rattle.gh_types.specs.declared.check.CheckError.{CheckError}
use Rattle.gh_types.specs.declared.check.CheckError.TheVariants as checking
use Rattle.gh_path.specs.Admitted as admitted
use Rattle.gh_path.specs.Admitted.{HasManyPaths, HasManySteps, NoneHas}
use Rattle.gh_path.specs.Refusals as listing
use Rattle.gh_path.specs.declared.listing.ConditionsError.{ConditionsError}
use Rattle.gh_path.specs.declared.listing.ConditionsError.TheVariants as of_listing
use Rattle.gh_symb.specs.Limits as symbolic
use Rattle.gh_symb.specs.declared.limits.SymbolicError.{SymbolicError}
use Rattle.gh_symb.specs.declared.limits.SymbolicError.TheVariants as of_symbolic
use Rattle.gh_ast.specs.Limits.{most_bytes}
use Rattle.gh_top.specs.Refusals.{IsText}
use Rattle.gh_top.specs.Fronts.{of_parse, of_check, of_list, of_terms, IsFrontError}
use Rattle.gh_top.specs.declared.front.FrontError.{FrontError}
use Rattle.gh_top.proofs.RuleLemmas.{first_numbered}

pub parse_refused : (text : List ℕ) (e : ParseError) → length text ≤ most_bytes → IsParseRefusal text e
    → IsFrontError (Some text) (of_parse e)
parse_refused text (parsing.Byte offset) short why = (text, refl, short, why)
parse_refused text (parsing.Deep span) short why =
    (text, refl, record { short = short; characters = why.0; deep = why.1 })
parse_refused text (parsing.Syntax span) short why =
    (text, refl, record { short = short; characters = why.characters; shallow = why.shallow }, why.none, why.place)
parse_refused text parsing.OutOfMemory short why = tt

pub parsed_text : (text : List ℕ) (P : Program) → length text ≤ most_bytes → IsParsed text P → IsText text P
parsed_text text P short proc =
    record {
      readable = record { short = short; characters = proc.characters; shallow = proc.shallow };
      spells = proc.spelled;
    }

pub check_refused : (text : List ℕ) (P : Program) (e : CheckError) → IsText text P → checked.IsCheckRefusal P e
    → IsFrontError (Some text) (of_check e)
check_refused text P (checking.TypeError number span) spelled why =
    (text, P, refl, spelled, first_numbered P number span why)
check_refused text P (checking.Limit passed) spelled why = (text, P, refl, spelled, why.0, admitted.of_text why.1)
check_refused text P checking.OutOfMemory spelled why = tt

pub list_refused : (P : Program) (e : ConditionsError) → IsTyped P → KeepsLimits P → listing.IsConditionsRefusal P e
    → (text : List ℕ) → IsText text P → IsFrontError (Some text) (of_list e)
list_refused P (of_listing.Limit passed) typed keeps (inl many) text spelled =
    (text, P, refl, spelled, typed, admitted.paths keeps many)
list_refused P (of_listing.Limit passed) typed keeps (inr many) text spelled =
    (text, P, refl, spelled, typed, admitted.steps keeps many.0 many.1)
list_refused P of_listing.OutOfMemory typed keeps why text spelled = tt

pub terms_refused : (P : Program) (e : SymbolicError) → IsTyped P → KeepsLimits P → NoneHas P (HasManyPaths P)
    → NoneHas P (HasManySteps P) → symbolic.IsAdmitRefusal P e → (text : List ℕ) → IsText text P
    → IsFrontError (Some text) (of_terms e)
terms_refused P (of_symbolic.Limit passed) typed keeps few short (inl many) text spelled =
    (text, P, refl, spelled, typed, admitted.terms keeps few short many)
terms_refused P (of_symbolic.Limit passed) typed keeps few short (inr many) text spelled =
    (text, P, refl, spelled, typed, admitted.versions keeps few short many.0 many.1)
terms_refused P of_symbolic.OutOfMemory typed keeps few short why text spelled = tt

-- the same where `?` hands the error on

pub list_exit : {T : Type 0} (P : Program) (e : ConditionsError) (result : Result T FrontError) → IsTyped P
    → KeepsLimits P → listing.IsConditionsRefusal P e → IsErrAnd result (λ f. f ≡ of_list e)
    → IfErr result (λ x. (text : List ℕ) → IsText text P → IsFrontError (Some text) x)
list_exit P e result typed keeps why is =
    let proc = err_from_is_err_and result is in
    rw (proc.1, proc.2) (list_refused P e typed keeps why)

pub terms_exit : {T : Type 0} (P : Program) (e : SymbolicError) (result : Result T FrontError) → IsTyped P
    → KeepsLimits P → NoneHas P (HasManyPaths P) → NoneHas P (HasManySteps P) → symbolic.IsAdmitRefusal P e
    → IsErrAnd result (λ f. f ≡ of_terms e)
    → IfErr result (λ x. (text : List ℕ) → IsText text P → IsFrontError (Some text) x)
terms_exit P e result typed keeps few short why is =
    let proc = err_from_is_err_and result is in
    rw (proc.1, proc.2) (terms_refused P e typed keeps few short why)
