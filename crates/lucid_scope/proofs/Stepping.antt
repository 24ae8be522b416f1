-- One step of a descent: what it notes and what it leaves to be noted are what was to be noted before.
use Rattle.lucid_scope.proofs.Common.{◌≡◌, ℕ, ◌+◌, List, ◌++◌, map, append_assoc, refl, sym, ap, ◌∙◌, arith, PlainTree, PlainDefs, def_of, one_def, Def, DefKind, Plain, Function, again_if, also, no_names, Earlier, put_back, mark, Owned, in_block_owned, marks, outside_marks, inside_marks, outer_marks, inner_marks, pending, work_outside, work_inside, outer_work, inner_work, Mark, Saved}
use Rattle.lucid_tree.specs.declared.tree.DefKind.TheVariants.{Current as CurrentKind}
use Rattle.lucid_scope.specs.declared.steps.Step.{Step}

-- of a list in two parts the first is noted by itself
pub in-two : (m a b rest whole : List Mark) → whole ≡ a ++ b → m ++ (a ++ (b ++ rest)) ≡ m ++ (whole ++ rest)
in-two m a b rest whole e = ap (λ l. m ++ l) (sym (append_assoc a b rest)) ∙ ap (λ l. m ++ (l ++ rest)) (sym e)

-- and of one in three parts
pub in-three : (m a b c rest whole : List Mark) → whole ≡ a ++ (b ++ c) → m ++ (a ++ (b ++ (c ++ rest))) ≡ m ++ (whole ++ rest)
in-three m a b c rest whole e = ap (λ l. m ++ (a ++ l)) (sym (append_assoc b c rest)) ∙ in-two m a (b ++ c) rest whole e

outside-kind : (f : Owned) (at : ℕ) (x : List ℕ) (d : DefKind) (ds : PlainDefs) → outside_marks f (def_of at x d ds) ≡ outer_marks f d ++ outside_marks f ds
outside-kind f at x (Plain e) ds = refl
outside-kind f at x (Function ps ats e) ds = refl
outside-kind f at x (CurrentKind e) ds = refl

-- one definition further outside
pub outside-next : (f : Owned) (d : Def) (ds es : PlainDefs) → ds ≡ one_def d es → outside_marks f ds ≡ outer_marks f d.kind ++ outside_marks f es
outside-next f d ds es e = ap (outside_marks f) e ∙ outside-kind f d.at d.name d.kind es

inside-kind : (f : Owned) (earlier : Earlier) (at : ℕ) (x : List ℕ) (d : DefKind) (ds : PlainDefs)
    → inside_marks f earlier (def_of at x d ds) ≡ map mark (again_if (earlier x) at) ++ (inner_marks f at d ++ inside_marks f (also x earlier) ds)
inside-kind f earlier at x (Plain e) ds = refl
inside-kind f earlier at x (Function ps ats e) ds = refl
inside-kind f earlier at x (CurrentKind e) ds = refl

-- one definition further inside
pub inside-next : (f : Owned) (d : Def) (ds es : PlainDefs) (earlier later : Earlier) → ds ≡ one_def d es
    → ((n : List ℕ) → later n ≡ also d.name earlier n)
    → inside_marks f earlier ds ≡ map mark (again_if (earlier d.name) d.at) ++ (inner_marks f d.at d.kind ++ inside_marks f later es)
inside-next f d ds es earlier later e h =
    let alike : later ≡ also d.name earlier = λ j n. h n j in
    ap (inside_marks f earlier) e ∙ inside-kind f earlier d.at d.name d.kind es
    ∙ ap (λ l. map mark (again_if (earlier d.name) d.at) ++ (inner_marks f d.at d.kind ++ inside_marks f l es)) (sym alike)

-- a block's scope is opened, and will be left
pub opened : (m : List Mark) (e : PlainTree) (ds : PlainDefs) (st : List Step) (saved : List Saved) (f g : Owned) (seen : Earlier)
    → ((n : List ℕ) → g n ≡ in_block_owned ds f n) → ((n : List ℕ) → put_back saved g n ≡ f n) → ((n : List ℕ) → seen n ≡ no_names n)
    → m ++ (marks g e ++ (inside_marks g seen ds ++ pending (put_back saved g) st))
    ≡ m ++ (marks (in_block_owned ds f) e ++ (inside_marks (in_block_owned ds f) no_names ds ++ pending f st))
opened m e ds st saved f g seen enters saves none =
    let in_scope : g ≡ in_block_owned ds f = λ j n. enters n j in
    let back : put_back saved g ≡ f = λ j n. saves n j in
    let unseen : seen ≡ no_names = λ j n. none n j in
    ap (λ h. m ++ (marks g e ++ (inside_marks g seen ds ++ pending h st))) back
    ∙ ap (λ h. m ++ (marks g e ++ (inside_marks g h ds ++ pending f st))) unseen
    ∙ ap (λ h. m ++ (marks h e ++ (inside_marks h no_names ds ++ pending f st))) in_scope

-- a function's scope is opened, and will be left
pub entered : (m : List Mark) (e : PlainTree) (st : List Step) (saved : List Saved) (f g h : Owned)
    → ((n : List ℕ) → g n ≡ h n) → ((n : List ℕ) → put_back saved g n ≡ f n)
    → m ++ (marks g e ++ pending (put_back saved g) st) ≡ m ++ (marks h e ++ pending f st)
entered m e st saved f g h enters saves =
    let in_scope : g ≡ h = λ j n. enters n j in
    let back : put_back saved g ≡ f = λ j n. saves n j in
    ap (λ x. m ++ (marks g e ++ pending x st)) back ∙ ap (λ x. m ++ (marks x e ++ pending f st)) in_scope

-- a scope is left
pub left_again : (m : List Mark) (st : List Step) (f g : Owned) → ((n : List ℕ) → f n ≡ g n) → m ++ pending f st ≡ m ++ pending g st
left_again m st f g h =
    let same : f ≡ g = λ j n. h n j in ap (λ x. m ++ pending x st) same

outside-work : (at : ℕ) (x : List ℕ) (d : DefKind) (ds : PlainDefs) → work_outside (def_of at x d ds) ≡ outer_work d + work_outside ds + 1
outside-work at x (Plain e) ds = omega arith
outside-work at x (Function ps ats e) ds = omega arith
outside-work at x (CurrentKind e) ds = omega arith

pub outside-falls : (d : Def) (ds es : PlainDefs) → ds ≡ one_def d es → work_outside ds ≡ outer_work d.kind + work_outside es + 1
outside-falls d ds es e = ap work_outside e ∙ outside-work d.at d.name d.kind es

inside-work : (at : ℕ) (x : List ℕ) (d : DefKind) (ds : PlainDefs) → work_inside (def_of at x d ds) ≡ inner_work d + work_inside ds + 1
inside-work at x (Plain e) ds = omega arith
inside-work at x (Function ps ats e) ds = omega arith
inside-work at x (CurrentKind e) ds = omega arith

pub inside-falls : (d : Def) (ds es : PlainDefs) → ds ≡ one_def d es → work_inside ds ≡ inner_work d.kind + work_inside es + 1
inside-falls d ds es e = ap work_inside e ∙ inside-work d.at d.name d.kind es
