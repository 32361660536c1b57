-- What a listing says whose parts are lent.
-- To audit: public contracts cite this.
use Rattle.rv_asm.specs.Lines.{Listed, listing_of}
use Rattle.rv_asm.specs.declared.listing.Listing.{Listing}

abbrev pub seen : Listing → Listed
seen l = listing_of l.program.now l.places.now
