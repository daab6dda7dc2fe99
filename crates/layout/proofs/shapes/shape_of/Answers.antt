-- `layout::shapes::shape_of` meets its contract, record by record. Assumes nothing.
use Rattle.layout.proofs.shapes.shape_of.Goals as goal

pub returns-in-FileHeader : goal.returns-in-FileHeader
returns-in-FileHeader c = rw c.in-FileHeader.is c.end.ensures

pub returns-in-BatchHeader : goal.returns-in-BatchHeader
returns-in-BatchHeader c = rw c.in-BatchHeader.is c.end-in-BatchHeader.ensures

pub returns-in-SegmentA : goal.returns-in-SegmentA
returns-in-SegmentA c = rw c.in-SegmentA.is c.detail.ensures

pub returns-in-SegmentB : goal.returns-in-SegmentB
returns-in-SegmentB c = rw c.in-SegmentB.is c.detail-in-SegmentB.ensures

pub returns-in-SegmentJ : goal.returns-in-SegmentJ
returns-in-SegmentJ c = rw c.in-SegmentJ.is c.detail-in-SegmentJ.ensures

pub returns-in-SegmentJ52 : goal.returns-in-SegmentJ52
returns-in-SegmentJ52 c = rw c.in-SegmentJ52.is c.detail-in-SegmentJ52.ensures

pub returns-in-SegmentZ : goal.returns-in-SegmentZ
returns-in-SegmentZ c = rw c.in-SegmentZ.is c.detail-in-SegmentZ.ensures

pub returns-in-BatchTrailer : goal.returns-in-BatchTrailer
returns-in-BatchTrailer c = rw c.in-BatchTrailer.is c.end-in-BatchTrailer.ensures

pub returns-in-FileTrailer : goal.returns-in-FileTrailer
returns-in-FileTrailer c = rw c.in-FileTrailer.is c.end-in-FileTrailer.ensures

pub returns-in-SegmentO : goal.returns-in-SegmentO
returns-in-SegmentO c = rw c.in-SegmentO.is c.detail-in-SegmentO.ensures
