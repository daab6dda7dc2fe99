-- `walk::masks::hold` meets its contract: the arrays are the masks of the record's fields, which antt computes. Assumes nothing.
use Rattle.layout.specs.Table.{fields_of}
use Rattle.layout.specs.Kinds.{same}
use Rattle.walk.specs.inner.Masks.{lows_of, highs_of}
use Rattle.walk.proofs.masks.hold.Goals as goal

pub returns-in-FileHeader : goal.returns-in-FileHeader
unfolding fields_of lows_of highs_of same
returns-in-FileHeader c = rw c.in-FileHeader.is c.fits.ensures

pub returns-in-Remittance : goal.returns-in-Remittance
unfolding fields_of lows_of highs_of same
returns-in-Remittance c = rw (c.in-BatchHeader.is, c.in-Remittance.is) c.fits-in-Remittance.ensures

pub returns-in-Return : goal.returns-in-Return
unfolding fields_of lows_of highs_of same
returns-in-Return c = rw (c.in-BatchHeader.is, c.in-Return.is) c.fits-in-Return.ensures

pub returns-in-Remittance-dir : goal.returns-in-Remittance-dir
unfolding fields_of lows_of highs_of same
returns-in-Remittance-dir c = rw (c.in-SegmentA.is, c.in-Remittance-dir.is) c.fits-in-Remittance-dir.ensures

pub returns-in-Return-dir : goal.returns-in-Return-dir
unfolding fields_of lows_of highs_of same
returns-in-Return-dir c = rw (c.in-SegmentA.is, c.in-Return-dir.is) c.fits-in-Return-dir.ensures

pub returns-in-SegmentB : goal.returns-in-SegmentB
unfolding fields_of lows_of highs_of same
returns-in-SegmentB c = rw c.in-SegmentB.is c.fits-in-SegmentB.ensures

pub returns-in-Remittance-dir-2 : goal.returns-in-Remittance-dir-2
unfolding fields_of lows_of highs_of same
returns-in-Remittance-dir-2 c = rw (c.in-SegmentJ.is, c.in-Remittance-dir-2.is) c.fits-in-Remittance-dir-2.ensures

pub returns-in-Return-dir-2 : goal.returns-in-Return-dir-2
unfolding fields_of lows_of highs_of same
returns-in-Return-dir-2 c = rw (c.in-SegmentJ.is, c.in-Return-dir-2.is) c.fits-in-Return-dir-2.ensures

pub returns-in-SegmentJ52 : goal.returns-in-SegmentJ52
unfolding fields_of lows_of highs_of same
returns-in-SegmentJ52 c = rw c.in-SegmentJ52.is c.fits-in-SegmentJ52.ensures

pub returns-in-SegmentZ : goal.returns-in-SegmentZ
unfolding fields_of lows_of highs_of same
returns-in-SegmentZ c = rw c.in-SegmentZ.is c.fits-in-SegmentZ.ensures

pub returns-in-Remittance-dir-3 : goal.returns-in-Remittance-dir-3
unfolding fields_of lows_of highs_of same
returns-in-Remittance-dir-3 c = rw (c.in-BatchTrailer.is, c.in-Remittance-dir-3.is) c.fits-in-Remittance-dir-3.ensures

pub returns-in-Return-dir-3 : goal.returns-in-Return-dir-3
unfolding fields_of lows_of highs_of same
returns-in-Return-dir-3 c = rw (c.in-BatchTrailer.is, c.in-Return-dir-3.is) c.fits-in-Return-dir-3.ensures

pub returns-in-FileTrailer : goal.returns-in-FileTrailer
unfolding fields_of lows_of highs_of same
returns-in-FileTrailer c = rw c.in-FileTrailer.is c.fits-in-FileTrailer.ensures

pub returns-in-Remittance-dir-4 : goal.returns-in-Remittance-dir-4
unfolding fields_of lows_of highs_of same
returns-in-Remittance-dir-4 c = rw (c.in-SegmentO.is, c.in-Remittance-dir-4.is) c.fits-in-Remittance-dir-4.ensures

pub returns-in-Return-dir-4 : goal.returns-in-Return-dir-4
unfolding fields_of lows_of highs_of same
returns-in-Return-dir-4 c = rw (c.in-SegmentO.is, c.in-Return-dir-4.is) c.fits-in-Return-dir-4.ensures
