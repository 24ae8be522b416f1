-- What holds by one subject holds by another that agrees with it.
use Rattle.lucid_session.proofs.Common.{◌≡◌, ℕ, suc, List, ◌++◌, sym, subst, refl, Elements, OneStream, stream_subject, Output, no_lines, one_line_more, Ran}
use Rattle.lucid_tree.specs.Tree.{PlainTree}
use Rattle.lucid_tree.specs.Output as tree
use Rattle.lucid_session.specs.Subject.{tree_stream, AreSameStream}
use Rattle.lucid_session.specs.Laws.{TreesWriteTheirOutput, SameStreamsRunAlike}

-- the tree's output, by its stream's
of_stream : (e : PlainTree) (b : Elements) (k : ℕ) (bytes : List ℕ) → Output (stream_subject (tree_stream e)) b k bytes → tree.Output b e k bytes
of_stream e b _ _ no_lines = tree.no_lines
of_stream e b _ _ (one_line_more {k = k} {bytes = bytes} before next stands) =
    subst (λ q. tree.Output b e (suc k) (bytes ++ q)) (sym stands.3) (tree.one_line_more (of_stream e b k bytes before) stands.0 stands.1 stands.2)

-- the stream's output, by its tree's
of_tree : (e : PlainTree) (b : Elements) (k : ℕ) (bytes : List ℕ) → tree.Output b e k bytes → Output (stream_subject (tree_stream e)) b k bytes
of_tree e b _ _ tree.no_lines = no_lines
of_tree e b _ _ (tree.one_line_more {k = k} {bytes = bytes} before v means goes_on) =
    one_line_more (of_tree e b k bytes before) (tree.line v) (v, means, goes_on, refl)

-- Each is the other.
pub output_of_trees : TreesWriteTheirOutput
output_of_trees e b k bytes = (of_stream e b k bytes, of_tree e b k bytes)

-- streams with the same approximations, which consult the same, are equal
same_stream : (x y : OneStream) → AreSameStream x y → x ≡ y
same_stream x y same = λ i. record { value = λ b m t. same.values b m t i; pairs = λ b m d t. same.pairs b m d t i }

-- So a run of the one does what a run of the other does.
pub same_runs : SameStreamsRunAlike
same_runs x y same b r result = subst (λ z. Ran (stream_subject z) b r result) (same_stream x y same)
