use Rattle.ds_law.proofs.Documents.{same_processes, same_hosts, same_sections}
use Rattle.ds_law.proofs.laws.two_documents.Goals as goal

pub returns-clause-processes : goal.returns-clause-processes
returns-clause-processes c = same_processes

pub returns-clause-hosts : goal.returns-clause-hosts
returns-clause-hosts c = same_hosts

pub returns-clause-outside : goal.returns-clause-outside
returns-clause-outside c = same_sections
