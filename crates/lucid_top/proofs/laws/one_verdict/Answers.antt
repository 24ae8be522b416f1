use Rattle.lucid_top.proofs.Verdicts.{Laws, one_text_refusal, one_name_refusal}
use Rattle.lucid_top.proofs.OneList.{one_list_of_inputs}
use Rattle.lucid_top.proofs.FlatVerdicts.{one_flat_table, table_is_not_refused, one_flat_refusal}
use Rattle.lucid_top.proofs.CertificateVerdicts.{one_certificate, certificate_is_not_refused, one_certificate_refusal}
use Rattle.lucid_top.proofs.laws.one_verdict.Goals as goal

pub returns-clause-one_text_refusal : goal.returns-clause-one_text_refusal
returns-clause-one_text_refusal c =
    let laws : Laws = record {
      tokens = c.tokens_are_unique.ensures;
      accepted = c.tokens_are_not_refused.ensures;
      terminals = c.terminals_are_unique.ensures;
      trees = c.terminals_spell_one_tree.ensures;
      scans = c.refusal_is_unique.ensures;
      faults = c.fault_is_unique.ensures;
    } in one_text_refusal laws

pub returns-clause-one_name_refusal : goal.returns-clause-one_name_refusal
returns-clause-one_name_refusal c = one_name_refusal c.least_fault_is_unique.ensures.unique

pub returns-clause-one_list : goal.returns-clause-one_list
returns-clause-one_list c = one_list_of_inputs

pub returns-clause-one_flat_table : goal.returns-clause-one_flat_table
returns-clause-one_flat_table c = one_flat_table c.one_table.ensures

pub returns-clause-table_not_refused : goal.returns-clause-table_not_refused
returns-clause-table_not_refused c = table_is_not_refused c.one_table.ensures

pub returns-clause-one_flat_refusal : goal.returns-clause-one_flat_refusal
returns-clause-one_flat_refusal c = one_flat_refusal c.one_table.ensures

pub returns-clause-one_certificate : goal.returns-clause-one_certificate
returns-clause-one_certificate c = one_certificate c.one_why.ensures

pub returns-clause-certificate_not_refused : goal.returns-clause-certificate_not_refused
returns-clause-certificate_not_refused c = certificate_is_not_refused

pub returns-clause-one_certificate_refusal : goal.returns-clause-one_certificate_refusal
returns-clause-one_certificate_refusal c = one_certificate_refusal
