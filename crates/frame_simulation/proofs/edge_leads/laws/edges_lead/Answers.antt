use Rattle.frame_simulation.proofs.EdgeLeads.Apart.{split_branches_go_apart}
use Rattle.frame_simulation.proofs.EdgeLeads.Leads.{edges_lead}
use Rattle.frame_simulation.proofs.edge_leads.laws.edges_lead.Goals as goal

pub returns : goal.returns
returns c = record { apart = split_branches_go_apart; edges = edges_lead }
