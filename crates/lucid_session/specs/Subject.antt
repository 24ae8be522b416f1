-- What a run is about: a subject, which says what stands at each time. The program's tree and its table are subjects that agree; several
-- streams side by side are one too. All that is said of a run is said of its subject.
use Rattle.std.specs.Prelude.{◌≡◌, ℕ, zero, suc, ◌<◌, ◌≤◌, List, [], ◌∷◌, ◌++◌, ◌⊎◌, map, Option, Some, None, IsSome}
use Rattle.std.specs.List.{flat_map, range_with_len}
use Rattle.lucid_value.specs.Plain.{PlainValue, eod}
use Rattle.lucid_value.specs.ValueText.{value_text}
use Rattle.lucid_tree.specs.Tree.{PlainTree}
use Rattle.lucid_tree.specs.Levels.{Elements}
use Rattle.lucid_tree.specs.Env.{empty}
use Rattle.lucid_tree.specs.Meaning.{val}
use Rattle.lucid_tree.specs.Demand.{consults}
use Rattle.lucid_tree.specs.Members.{In}
use Rattle.lucid_tree.specs.Output.{line}
use Rattle.lucid_equations.specs.Values.{eqval}
use Rattle.lucid_equations.specs.Visits.{consults_on_nodes}
use Rattle.lucid_equations.specs.Rows.{equations_of}
use Rattle.lucid_equations.specs.declared.table.Table.{Table}

-- A subject, over the elements of its inputs: the line that stands at a time; where it ends; whether the approximation of a limit is
-- defined at a time, or undefined; and the pairs of an input and an index that this consults, where an added number decides choices.
pub record Subject : Type 1 where
  pub line : Elements → (time : ℕ) → List ℕ → Type 0
  pub ends : Elements → (time : ℕ) → Type 0
  pub defined : Elements → (limit time : ℕ) → Type 0
  pub undefined : Elements → (limit time : ℕ) → Type 0
  pub consults : Elements → (limit added time : ℕ) → List ℕ × ℕ → Type 0

-- One stream: its approximations at each time, and the pairs that they consult.
pub record OneStream : Type 0 where
  pub value : Elements → (limit time : ℕ) → Option PlainValue
  pub pairs : Elements → (limit added time : ℕ) → List (List ℕ × ℕ)

-- some approximation of the stream has the value at a time
abbrev pub StreamMeans : OneStream → Elements → (time : ℕ) → PlainValue → Type 0
StreamMeans x b t v = (m : ℕ) × (x.value b m t ≡ Some v)

-- The subject of one stream: at each time the line of the value that it means, to the first end of data.
abbrev pub stream_subject : OneStream → Subject
stream_subject x = record {
  line = λ b t bytes. (v : PlainValue) × StreamMeans x b t v × (v ≡ eod → ⊥) × (bytes ≡ line v);
  ends = λ b t. StreamMeans x b t eod;
  defined = λ b m t. IsSome (x.value b m t);
  undefined = λ b m t. x.value b m t ≡ None;
  consults = λ b m d t pair. In pair (x.pairs b m d t);
}

-- the stream of a tree at space 0
abbrev pub tree_stream : PlainTree → OneStream
tree_stream e = record { value = λ b m t. val b m e empty t 0; pairs = λ b m d t. consults b m d e empty t 0 }

-- the stream of a table's root at a space, and that at space 0
abbrev pub table_stream_at : Table → (space : ℕ) → OneStream
table_stream_at T s = record { value = λ b m t. eqval (equations_of T) b m t s; pairs = λ b m d t. consults_on_nodes (equations_of T) b m d t s }

abbrev pub table_stream : Table → OneStream
table_stream T = table_stream_at T 0

-- the streams of a table's root at so many spaces, from space 0 on
abbrev pub table_columns : Table → (columns : ℕ) → List OneStream
table_columns T n = map (table_stream_at T) (range_with_len 0 n)

-- A stream has ended at a time where it means end of data at some time through it. It is open at a time where it means that at none before.
abbrev pub HasEnded : OneStream → Elements → (time : ℕ) → Type 0
HasEnded x b t = (u : ℕ) × (u ≤ t) × StreamMeans x b u eod

abbrev pub IsOpen : OneStream → Elements → (time : ℕ) → Type 0
IsOpen x b t = (u : ℕ) → u < t → StreamMeans x b u eod → ⊥

-- The cell of a stream at a time: no byte where it has ended, else the text of the value that it means.
abbrev pub IsCell : OneStream → Elements → (time : ℕ) → List ℕ → Type 0
IsCell x b t cell = (HasEnded x b t × (cell ≡ [])) ⊎ ((HasEnded x b t → ⊥) × ((v : PlainValue) × StreamMeans x b t v × (cell ≡ value_text v)))

-- the cells of streams, in their order
abbrev pub AreCells : List OneStream → Elements → (time : ℕ) → List (List ℕ) → Type 0
AreCells [] b t cells = cells ≡ []
AreCells (x ∷ xs) b t [] = ⊥
AreCells (x ∷ xs) b t (cell ∷ cells) = IsCell x b t cell × AreCells xs b t cells

-- cells parted by byte 9
abbrev pub parted : List (List ℕ) → List ℕ
parted [] = []
parted (cell ∷ cells) = cell ++ flat_map (λ next. 9 ∷ next) cells

-- something is said of each of them, or of one of them
abbrev pub OfEach : List OneStream → (OneStream → Type 0) → Type 0
OfEach xs P = (x : OneStream) → In x xs → P x

abbrev pub OfSome : List OneStream → (OneStream → Type 0) → Type 0
OfSome xs P = (x : OneStream) × In x xs × P x

-- The subject of streams side by side: at each time the line of their cells, until all have ended. Only the streams that are open at a time
-- have to be defined there, and consult.
abbrev pub columns_subject : List OneStream → Subject
columns_subject xs = record {
  line = λ b t bytes. (cells : List (List ℕ)) × AreCells xs b t cells × OfSome xs (λ x. HasEnded x b t → ⊥) × (bytes ≡ parted cells ++ 10 ∷ []);
  ends = λ b t. OfEach xs (λ x. HasEnded x b t);
  defined = λ b m t. OfEach xs (λ x. IsOpen x b t → IsSome (x.value b m t));
  undefined = λ b m t. OfSome xs (λ x. IsOpen x b t × (x.value b m t ≡ None));
  consults = λ b m d t pair. OfSome xs (λ x. IsOpen x b t × In pair (x.pairs b m d t));
}

-- Two streams have the same approximations, which consult the same.
pub record AreSameStream (x y : OneStream) : Type 0 where
  pub values : (b : Elements) (m t : ℕ) → x.value b m t ≡ y.value b m t
  pub pairs : (b : Elements) (m d t : ℕ) → x.pairs b m d t ≡ y.pairs b m d t

-- A subject's output for k times is these bytes: at each time below k a line stands.
pub data Output (S : Subject) (b : Elements) : (k : ℕ) → (bytes : List ℕ) → Type 0 where
  no_lines : Output S b zero []
  one_line_more : {k : ℕ} {bytes : List ℕ} → Output S b k bytes → (next : List ℕ) → S.line b k next → Output S b (suc k) (bytes ++ next)
