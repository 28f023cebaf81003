use Rattle.std.proofs.Common.{rules, ◌≡◌, ◌∷◌, ◌-◌, ◌∙◌, [], Bool, true, false, List, Contains, ap, sym, subst}
use Rattle.std.proofs.lemmas.List.Elements.{All-cons, All-nil}
use Rattle.gh_base.specs.declared.atom.Atom.TheVariants.{Def}
use Rattle.gh_base.specs.declared.atom.Lit.{Lit}
use Rattle.gh_base.specs.declared.sizes.Sizes.{Sizes}
use Rattle.gh_base.specs.Atoms.{opposite}
use Rattle.gh_sat.specs.Theory.{IsRefutedBy}
use Rattle.gh_search_tests.proofs.apart.ApartTheory.conflict.Goals as goal

abbrev first : Sizes → Bool → Lit
first z positive = record { atom = Def (z.defs - 2); positive = positive }

abbrev last : Sizes → Bool → Lit
last z positive = record { atom = Def (z.defs - 1); positive = positive }

abbrev pair : Sizes → List Lit
pair z = first z false ∷ last z false ∷ []

refuted : (z : Sizes) (lits : List Lit) → Contains lits (first z true) → Contains lits (last z true)
    → IsRefutedBy lits (pair z)
refuted z lits a b =
    let P : Lit → Type 0 = λ l. Contains lits (opposite l) in
    All-cons P (first z false) (last z false ∷ []) a (All-cons P (last z false) [] b (All-nil P))

is_pair : (z y : Sizes) (l m : Lit) → y ≡ z → l ≡ first y false → m ≡ last y false → l ∷ m ∷ [] ≡ pair z
is_pair z y l m e f g = (λ i. f i ∷ g i ∷ []) ∙ ap pair e

found : (z : Sizes) (lits c : List Lit) → c ≡ pair z → Contains lits (first z true) → Contains lits (last z true)
    → (c ≡ pair z) × IsRefutedBy lits c
found z lits c e a b = (e, subst (IsRefutedBy lits) (sym e) (refuted z lits a b))

stands_first : (z y : Sizes) (lits : List Lit) (l : Lit) → y ≡ z → l ≡ first y true → Contains lits l
    → Contains lits (first z true)
stands_first z y lits l e f a = subst (λ (m : Lit). Contains lits m) (f ∙ ap (λ (w : Sizes). first w true) e) a

stands_last : (z y : Sizes) (lits : List Lit) (l : Lit) → y ≡ z → l ≡ last y true → Contains lits l
    → Contains lits (last z true)
stands_last z y lits l e f a = subst (λ (m : Lit). Contains lits m) (f ∙ ap (λ (w : Sizes). last w true) e) a

pub returns-clause-found : goal.returns-clause-found
returns-clause-found c =
    let t = c.args.self.now.asserted in
    let y = c.sizes-defs.result in
    let a : Contains t.lits c.def.result =
    search (rules, c.stands.ensures, c.if-not-stands.ensures, c.lits-lits.ensures) in
    let b : Contains t.lits c.def-2.result =
    search (rules, c.stands-2.ensures, c.if-not-stands-2.ensures, c.lits-lits.ensures) in
    found t.sizes t.lits c.from_array.result
    (c.from_array.ensures ∙ is_pair t.sizes y c.def-3.result c.def-4.result c.sizes-defs.ensures c.def-3.ensures
    c.def-4.ensures)
    (stands_first t.sizes y t.lits c.def.result c.sizes-defs.ensures c.def.ensures a)
    (stands_last t.sizes y t.lits c.def-2.result c.sizes-defs.ensures c.def-2.ensures b)
