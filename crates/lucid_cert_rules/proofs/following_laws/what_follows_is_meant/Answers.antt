use Rattle.lucid_cert_rules.proofs.Meant.{what_follows_is_meant}
use Rattle.lucid_cert_rules.proofs.following_laws.what_follows_is_meant.Goals as goal

pub returns : goal.returns
returns c =
    what_follows_is_meant
    (record {
      stay = c.approximations_stay.ensures.stay;
      rows = c.parts_are_their_nodes.ensures.rows;
      parts = c.parts_are_their_nodes.ensures.values;
      freezing = c.freezing_is_the_subject_there.ensures.values;
      numbers = c.aims_go_by_numbers.ensures.nodes;
      references = c.references_are_one_more.ensures.values;
      elements = c.references_are_one_more.ensures.elements;
    })
