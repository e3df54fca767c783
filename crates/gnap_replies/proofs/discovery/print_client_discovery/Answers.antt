use Rattle.gnap_replies.proofs.discovery.print_client_discovery.Goals as goal

pub returns : goal.returns
returns c = c.into_bytes.ensures _ (c.print_for_client.ensures _ c.new-out.ensures)
