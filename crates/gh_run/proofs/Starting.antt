-- The procedure at its start has the store that is given.
use Rattle.std.specs.Prelude.{◌≡◌, ◌-◌, ℕ, List, [], ◌∷◌, ◌++◌, length, map, take, drop, get_or}
use Rattle.std.proofs.lemmas.Option.{get_or_from_slice_get}
use Rattle.std.proofs.Common.{refl, sym, ◌∙◌, ap}
use Rattle.gh_ast.specs.Plain.{Procedure, Program}
use Rattle.gh_ast.specs.Programs.{variable_names}
use Rattle.gh_assert.specs.Heaps.{Heap}
use Rattle.gh_assert.specs.Stores.{listed_names, store_of}
use Rattle.gh_assert.specs.declared.store.Entry.{Entry}
use Rattle.gh_machine.specs.Configs.{beside, IsBeginning}
use Rattle.gh_machine.specs.Machine.{Config, starting}
use Rattle.gh_machine.proofs.Begun.{cut_whole}
use Rattle.gh_run.specs.StateFiles.{BeginsIn}
use Rattle.gh_run.specs.Reports.{begun}
use Rattle.gh_run.specs.declared.state_file.Begin.{Begin}

abbrev pub values_of : List Entry → List ℕ
values_of es = map (λ (e : Entry). e.value) es

both_sides : (es : List Entry) → beside (listed_names es) (values_of es) ≡ es
both_sides [] = refl
both_sides (e ∷ es) = ap (λ z. e ∷ z) (both_sides es)

pub cut : (n : ℕ) (vs us ws : List ℕ) → us ≡ vs → ws ≡ vs → take n us ++ take (length ws - n) (drop n ws) ≡ vs
cut n vs us ws a b =
    ap (λ z. take n z ++ take (length ws - n) (drop n ws)) a ∙ ap (λ z. take n vs ++ take (length z - n) (drop n z)) b
    ∙ cut_whole n vs

pub begun_is : (P : Program) (b : Begin) (proc : Procedure) (vs ws : List ℕ) (h : Heap) (c : Config) → BeginsIn P b proc
    → vs ++ ws ≡ values_of b.store → h ≡ b.heap → IsBeginning P b.procedure vs ws h c → c ≡ begun proc b
begun_is P b proc vs ws h c begins whole heap start =
    let at : get_or P.procedures b.procedure proc ≡ proc =
    get_or_from_slice_get P.procedures b.procedure proc proc begins.numbered in
    let store : beside (variable_names proc) (vs ++ ws) ≡ b.store =
    ap (λ z. beside (variable_names proc) z) whole ∙ ap (λ ns. beside ns (values_of b.store)) (sym begins.lists)
    ∙ both_sides b.store in
    start proc
    ∙ ap (λ q. starting q (store_of (beside (variable_names q) (vs ++ ws))) h []) at
    ∙ ap (λ es. starting proc (store_of es) h []) store
    ∙ ap (λ k. starting proc (store_of b.store) k []) heap
