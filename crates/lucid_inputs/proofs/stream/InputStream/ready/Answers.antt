use Rattle.lucid_inputs.proofs.Common.{◌<◌, length, MatchOption, refl, sym, subst, arith, IsTrue, slice_get_read, slice_get-set_same, IsRead, element_of, stream_of, slice_get_past}
use Rattle.lucid_inputs.proofs.TakeLemmas.{map-set_same, with_elements}
use Rattle.lucid_inputs.proofs.stream.InputStream.ready.Goals as goal

pub returns-in_err-read-clause-same : goal.returns-in_err-read-clause-same
returns-in_err-read-clause-same c =
    let items = c.args.self.now.elements.items in
    let within : c.args.index < length items = omega (arith, c.args.self.now.elements.ok.0) in
    let was = slice_get_read items _ c.args.index c.index_mut.result.now refl within c.index_mut.ensures.value in
    with_elements (stream_of c.args.self.now) _ (map-set_same element_of items _ _ _ was c.in_err-read.ensures.same)

pub returns-then-number-len-clause-same : goal.returns-then-number-len-clause-same
returns-then-number-len-clause-same c =
    let items = c.args.self.now.elements.items in
    let within : c.args.index < length items = omega (arith, c.args.self.now.elements.ok.0) in
    let was = slice_get_read items _ c.args.index c.index_mut.result.now refl within c.index_mut.ensures.value in
    with_elements (stream_of c.args.self.now) _ (map-set_same element_of items _ _ _ was c.in_ok-read.ensures.same)

pub returns-then-number-len-clause-ready : goal.returns-then-number-len-clause-ready
returns-then-number-len-clause-ready c =
    let items = c.args.self.now.elements.items in
    let is = slice_get-set_same items c.args.index c.read.new.self (omega (arith, c.args.self.now.elements.ok.0)) in
    subst (λ o. MatchOption o (IsTrue c.args.self.now.ended) IsRead) (sym is) c.in_ok-read.ensures.read

pub returns-then-self-clause-ready : goal.returns-then-self-clause-ready
returns-then-self-clause-ready c =
    let none = slice_get_past c.args.self.now.elements.items c.args.index (omega (arith, c.args.self.now.elements.ok.0)) in
    subst (λ o. MatchOption o (IsTrue c.args.self.now.ended) IsRead) (sym none) c.if-self.true
