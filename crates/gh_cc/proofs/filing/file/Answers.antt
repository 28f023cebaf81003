use Rattle.std.proofs.Common.{◌≡◌, ◌∙◌, sym, ap, Some, get_or, false, refl, []}
use Rattle.std.specs.Prelude.{slice_get}
use Rattle.std.proofs.lemmas.Option.{slice_get-get_or}
use Rattle.std.proofs.lemmas.List.{append-nil}
use Rattle.gh_base.specs.declared.atom.Lit.{Lit}
use Rattle.gh_base.specs.declared.atom.Atom.TheVariants.{Eq}
use Rattle.gh_base.specs.Atoms.{number_of, term}
use Rattle.gh_cc.specs.Signatures.{find_lit}
use Rattle.gh_cc.specs.Kept.{normal, reps}
use Rattle.gh_base.proofs.ListLemmas.{get_within}
use Rattle.gh_cc.proofs.FilingLemmas.{relation_of, put_files, entry_found, same_filed, IfNone_then, clash_same}
use Rattle.gh_cc.proofs.filing.file.Goals as goal

abbrev none : Lit
none = record { atom = Eq (term 0) (term 0); positive = false }

pub clash_of-requires : goal.clash_of-requires
clash_of-requires c =
    let lits = c.args.lits.now in
    let x = get_or lits c.args.place none in
    let found : find_lit c.args.signatures.now.entries
    (number_of c.args.sizes (normal (reps c.args.partition.now.links) x.atom)) ≡ Some c.in-Some.first =
    ap (find_lit c.args.signatures.now.entries) (sym c.key-number.ensures.value) ∙ sym c.in-Some.ensures in
    let e = entry_found c.args.sizes lits c.args.partition.now c.args.signatures.now x c.in-Some.first c.requires.tied
    found in
    record { first = get_within lits c.in-Some.first e.lit e.there; second = c.requires.place }

pub returns-in-None : goal.returns-in-None
returns-in-None c =
    let lits = c.args.lits.now in
    let x = get_or lits c.args.place none in
    let here : slice_get lits c.args.place ≡ Some x = slice_get-get_or lits c.args.place none c.requires.place in
    let f = put_files c.args.sizes lits c.args.partition.now c.args.signatures.now c.put.new.self c.key-number.result
    c.args.place x c.requires.tied here
    (relation_of x.atom c.in_default.not-Eq) c.key-number.ensures.value (sym c.in-None.ensures) c.put.ensures in
    record { tied = f.tied; grows = f.grows; filed = f.filed; clash = tt }

pub returns-in-Some : goal.returns-in-Some
returns-in-Some c =
    let lits = c.args.lits.now in
    let x = get_or lits c.args.place none in
    let here : slice_get lits c.args.place ≡ Some x = slice_get-get_or lits c.args.place none c.requires.place in
    let found : find_lit c.args.signatures.now.entries
    (number_of c.args.sizes (normal (reps c.args.partition.now.links) x.atom)) ≡ Some c.in-Some.first =
    ap (find_lit c.args.signatures.now.entries) (sym c.key-number.ensures.value) ∙ sym c.in-Some.ensures in
    record {
      tied = c.requires.tied;
      grows = record { added = []; more = sym (append-nil c.args.signatures.now.entries); count = refl };
      filed = IfNone_then c.clash_of.result c.clash_of.ensures.same (λ same.
          same_filed c.args.sizes lits c.args.partition.now c.args.signatures.now c.args.place x c.in-Some.first
          c.requires.tied here (relation_of x.atom c.in_default.not-Eq) found same);
      clash = clash_same c.args.sizes lits c.args.partition.now c.args.signatures.now c.args.place x c.in-Some.first
          c.clash_of.result c.requires.tied here found c.clash_of.ensures.clash c.clash_of.ensures.opposite;
    }
