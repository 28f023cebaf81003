use Rattle.std.proofs.Common.{◌≡◌, ◌∙◌, sym, ap, subst, codes}
use Rattle.gh_ast.specs.Plain.{program_of}
use Rattle.gh_ast.specs.Programs.{variable_names}
use Rattle.gh_ast.specs.Rules.{IsTyped}
use Rattle.gh_ast.proofs.TypedPrograms.{variables_are_distinct}
use Rattle.gh_draw.specs.Reading.{IsFrontRead, AreDistinctNames}
use Rattle.gh_draw.proofs.Reader.{word_missing, word_taken}
use Rattle.gh_draw.proofs.Whole.{is_nothing, is_something}
use Rattle.gh_run.specs.Lines.{ShowsProcedure, ShowsStore, ShowsCellLine}
use Rattle.gh_run.proofs.Procedures.{read_at, member_at}
use Rattle.gh_run.proofs.Telling.{IsListed, IsHeaped, named, listed, heaped, told5, few_cells, faulty1, faulty2}
use Rattle.gh_run.proofs.Telling.{faulty3, faulty4, faulty5, refused}
use Rattle.gh_run.proofs.state_file.read_state.Goals.{After-as_slice, In-Some-2, In-Some-3}
use Rattle.gh_run.proofs.state_file.read_state.Goals as goal

-- the names of the variables of the procedure that was read
names_at : (c : After-as_slice) → c.as_slice.result.now ≡ variable_names c.in-Some.ensures.number.procedure
names_at c =
    let shown : ShowsProcedure (program_of c.args.typed.now) c.args.text.now c.in-Some.number
    c.read_procedure.new.cursor.text.now = c.in-Some.ensures in
    let same =
    read_at c.args.typed.now c.program.result.now c.in-Some.number c.from.result c.index-procedure.result.now
    shown.number.procedure c.program.ensures.same c.from.ensures c.index-procedure.ensures shown.number.numbered in
    c.as_slice.ensures.value ∙ c.in_ok-names.ensures ∙ ap variable_names same

typed_at : (c : After-as_slice) → IsTyped (program_of c.args.typed.now)
typed_at c = subst (λ W. IsTyped (program_of W)) c.program.ensures.same c.program.ensures.typed

listed_at : (c : In-Some-2) → c.as_slice.result.now ≡ variable_names c.in-Some.ensures.number.procedure
    → IsListed (variable_names c.in-Some.ensures.number.procedure) c.read_procedure.new.cursor.text.now
    c.in-Some-2.store c.read_store_line.new.cursor.text.now
listed_at c names =
    let r1 = c.read_procedure.new.cursor.text.now in
    let r2 = c.read_store_line.new.cursor.text.now in
    let store = subst (λ ns. IsFrontRead (ShowsStore ns) r1 r2 c.in_ok-store.field-0) names c.in_ok-store.ensures in
    listed (variable_names c.in-Some.ensures.number.procedure) r1 c.in-Some-2.store r2
    (subst (λ o. IsFrontRead (ShowsStore (variable_names c.in-Some.ensures.number.procedure)) r1 r2 o) c.in-Some-2.is
    store)

heaped_at : (c : In-Some-3)
    → IsHeaped c.read_store_line.new.cursor.text.now c.in-Some-3.heap c.read_heap_line.new.cursor.text.now
heaped_at c =
    let r2 = c.read_store_line.new.cursor.text.now in
    let r3 = c.read_heap_line.new.cursor.text.now in
    heaped r2 c.in-Some-3.heap r3 (subst (λ o. IsFrontRead ShowsCellLine r2 r3 o) c.in-Some-3.is c.in_ok-heap.ensures)

pub read_store_line-requires : goal.read_store_line-requires
read_store_line-requires c =
    let P = program_of c.args.typed.now in
    let at = (goal.at.read_store_line-requires c).After-as_slice in
    let shown : ShowsProcedure P c.args.text.now c.in-Some.number c.read_procedure.new.cursor.text.now =
    c.in-Some.ensures in
    let proc = shown.number.procedure in
    subst AreDistinctNames (sym (names_at at))
    (variables_are_distinct P (typed_at at) proc (member_at P c.in-Some.number proc shown.number.numbered))

pub returns-in_default : goal.returns-in_default
returns-in_default c =
    let P = program_of c.args.typed.now in
    record {
      read = tt;
      refused = refused P c.args.text.now c.faulty.result 1 c.faulty.ensures
          (faulty1 P c.args.text.now c.read_procedure.new.cursor.text.now c.in_default.ensures);
      fits = tt;
      few = tt;
    }

pub returns-in_default-2 : goal.returns-in_default-2
returns-in_default-2 c =
    let P = program_of c.args.typed.now in
    let text = c.args.text.now in
    let n = c.in-Some.number in
    let at = (goal.at.returns-in_default-2 c).After-as_slice in
    let r1 = c.read_procedure.new.cursor.text.now in
    let shown : ShowsProcedure P text n r1 = c.in-Some.ensures in
    let proc = shown.number.procedure in
    let r2 = c.read_store_line.new.cursor.text.now in
    let store =
    subst (λ ns. IsFrontRead (ShowsStore ns) r1 r2 c.in_ok-store.field-0) (names_at at) c.in_ok-store.ensures in
    let none = subst (λ o. IsFrontRead (ShowsStore (variable_names proc)) r1 r2 o) c.in_default-2.is store in
    record {
      read = tt;
      refused = refused P text c.faulty-in_default-2.result 2 c.faulty-in_default-2.ensures
          (faulty2 P text n proc r1 r2 (typed_at at) (named P text n r1 shown) none);
      fits = tt;
      few = tt;
    }

pub returns-in_default-3 : goal.returns-in_default-3
returns-in_default-3 c =
    let P = program_of c.args.typed.now in
    let text = c.args.text.now in
    let n = c.in-Some.number in
    let r1 = c.read_procedure.new.cursor.text.now in
    let shown : ShowsProcedure P text n r1 = c.in-Some.ensures in
    let proc = shown.number.procedure in
    let a = named P text n r1 shown in
    let r2 = c.read_store_line.new.cursor.text.now in
    let es = c.in-Some-2.store in
    let at = goal.at.returns-in_default-3 c in
    let l = listed_at at.In-Some-2 (names_at at.After-as_slice) in
    let r3 = c.read_heap_line.new.cursor.text.now in
    let none = subst (λ o. IsFrontRead ShowsCellLine r2 r3 o) c.in_default-3.is c.in_ok-heap.ensures in
    record {
      read = tt;
      refused = refused P text c.faulty-in_default-3.result 3 c.faulty-in_default-3.ensures
          (faulty3 P text n proc r1 r2 r3 es (typed_at at.After-as_slice) a l none);
      fits = tt;
      few = tt;
    }

pub returns-then-is_none : goal.returns-then-is_none
returns-then-is_none c =
    let P = program_of c.args.typed.now in
    let text = c.args.text.now in
    let n = c.in-Some.number in
    let r1 = c.read_procedure.new.cursor.text.now in
    let shown : ShowsProcedure P text n r1 = c.in-Some.ensures in
    let proc = shown.number.procedure in
    let a = named P text n r1 shown in
    let r2 = c.read_store_line.new.cursor.text.now in
    let es = c.in-Some-2.store in
    let at = goal.at.returns-then-is_none c in
    let l = listed_at at.In-Some-2 (names_at at.After-as_slice) in
    let r3 = c.read_heap_line.new.cursor.text.now in
    let h = c.in-Some-3.heap in
    let m = heaped_at at.In-Some-3 in
    let r4 = c.take.new.self.text.now in
    let none = word_missing (codes "end\n") r3 r4 c.take.result c.take.ensures.read c.if-is_none.ensures in
    record {
      read = tt;
      refused = refused P text c.faulty-then-is_none.result 4 c.faulty-then-is_none.ensures
          (faulty4 P text n proc r1 r2 r3 r4 es h (typed_at at.After-as_slice) a l m none);
      fits = tt;
      few = tt;
    }

pub returns-then-not-is_empty : goal.returns-then-not-is_empty
returns-then-not-is_empty c =
    let P = program_of c.args.typed.now in
    let text = c.args.text.now in
    let n = c.in-Some.number in
    let r1 = c.read_procedure.new.cursor.text.now in
    let shown : ShowsProcedure P text n r1 = c.in-Some.ensures in
    let proc = shown.number.procedure in
    let a = named P text n r1 shown in
    let r2 = c.read_store_line.new.cursor.text.now in
    let es = c.in-Some-2.store in
    let at = goal.at.returns-then-not-is_empty c in
    let l = listed_at at.In-Some-2 (names_at at.After-as_slice) in
    let r3 = c.read_heap_line.new.cursor.text.now in
    let h = c.in-Some-3.heap in
    let m = heaped_at at.In-Some-3 in
    let r4 = c.take.new.self.text.now in
    let end = word_taken (codes "end\n") r3 r4 c.take.result c.take.ensures.read c.if-is_none.ensures in
    let some = is_something r4 c.if-not-is_empty.ensures in
    record {
      read = tt;
      refused = refused P text c.faulty-then-not-is_empty.result 5 c.faulty-then-not-is_empty.ensures
          (faulty5 P text n proc r1 r2 r3 r4 es h (typed_at at.After-as_slice) a l m end some);
      fits = tt;
      few = tt;
    }

pub returns : goal.returns
returns c =
    let P = program_of c.args.typed.now in
    let text = c.args.text.now in
    let n = c.in-Some.number in
    let r1 = c.read_procedure.new.cursor.text.now in
    let shown : ShowsProcedure P text n r1 = c.in-Some.ensures in
    let proc = shown.number.procedure in
    let a = named P text n r1 shown in
    let r2 = c.read_store_line.new.cursor.text.now in
    let es = c.in-Some-2.store in
    let at = goal.at.returns c in
    let l = listed_at at.In-Some-2 (names_at at.After-as_slice) in
    let r3 = c.read_heap_line.new.cursor.text.now in
    let h = c.in-Some-3.heap in
    let m = heaped_at at.In-Some-3 in
    let r4 = c.take.new.self.text.now in
    let end = word_taken (codes "end\n") r3 r4 c.take.result c.take.ensures.read c.if-is_none.ensures in
    let none = is_nothing r4 c.if-not-is_empty.ensures in
    let tells = told5 P text n proc r1 r2 r3 r4 es h a l m end none in
    record {
      read = tells;
      refused = tt;
      fits = (tells.procedure, tells.begins);
      few = few_cells P text n proc r1 r2 r3 es h a l m;
    }
