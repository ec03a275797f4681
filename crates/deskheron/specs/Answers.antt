-- What the entry of list for C returns and leaves behind its pointers. Those of check, reach and trim say it in their contracts.
use Rattle.std.specs.Prelude.{◌≡◌, List, map, ℕ}
use Rattle.table.specs.Outcomes.{number_of, cell_after}
use Rattle.list.specs.Answers.{Listing, listing_outcome, written}
use Rattle.list.specs.Buffers.{emitted_in, code_in, reached_in, front, spread}

-- v is what listing comes to: the number, the three buffers, and the count behind its pointer
pub record ListEntered (v : Listing) (r : ℕ) (o o' k k' l l' : List ℕ) (count count' : ℕ) : Type 0 where
  pub number : r ≡ number_of (listing_outcome v)
  pub signals : o' ≡ front (spread 4 (map emitted_in (written v))) o
  pub codes : k' ≡ front (map code_in (written v)) k
  pub labels : l' ≡ front (spread 8 (map reached_in (written v))) l
  pub counted : count' ≡ cell_after (listing_outcome v) 0 count
